-- A table is accepted exactly if it is well made, and then its look-ups find all rows. Assumes nothing.
use Rattle.std.proofs.Common.{◌≡◌, ℕ, zero, suc, ◌+◌, ◌<◌, ◌≤◌, min, Bool, true, false, cond, ◌&&◌, eqb, ltb, leb, List, [], length, get_or, take, drop, Some, None, Decides, filter, Option, sym, refl, ap, ◌∙◌, inl, inr, add-one, arith}
use Rattle.std.proofs.lemmas.List.Elements.{filter-append}
use Rattle.std.proofs.lemmas.List.Filters.{length-filter_more}
use Rattle.std.proofs.lemmas.List.{length-append, length-map, take_all, take-append-drop}
use Rattle.std.proofs.lemmas.Option.{get_or_from_slice_get, slice_get-get_or, slice_get_within}
use Rattle.std.proofs.lemmas.Bool.{and_from, and_parts, cases_Bool, cases_lt, cond-false, cond-true, eq-eqb, eqb-true, le-leb, le-ltb, leb-false, leb-true, lt-leb, lt-ltb, ltb-false, ltb-true}
use Rattle.std.proofs.ByRecursion.{Decides-by_and}
use Rattle.std.proofs.lemmas.Bool.Decides.{nat_tests}
use Rattle.std.specs.List.{AllByRecursion as All, slice_get}
use Rattle.planning.specs.Ranks.{every}
use Rattle.tables.specs.Books.{Faithful}
use Rattle.tables.specs.Places.{back, passes}
use Rattle.tables.specs.Rows.{falls, fits, leads, rows_of, targets}
use Rattle.tables.specs.Spots.{within}
use Rattle.tables.specs.Tables.{Fits, Follows, Table, WellMade, Within, first_wrong, levels_fit, row_fault, table_fault, wrong, wrong_after}
use Rattle.tables.specs.declared.spot.Spot.{Spot}
use Rattle.tables.specs.declared.row.TableRow.{TableRow}
use Rattle.tables.specs.declared.fault.TableFault.{TableFault}
use Rattle.tables.specs.declared.fault.TableFault.TheVariants.{Acts, Start, Wanted, Rows}
use Rattle.tables.proofs.Finding.{block_all, seek_enough}
use Rattle.tables.proofs.Judging.{Right, back_one, right_from, right_to, rise_at}
use Rattle.tables.proofs.Lists.{all_at, all_from, kept_none}
use Rattle.tables.proofs.Seeking.{blank}
use Rattle.tables.proofs.Sorting.{Sorted, sorted_from}

-- nothing comes of a choice with one way that gives something
not_first : {A : Type 0} (b : Bool) (x : A) (o : Option A) → cond b (Some x) o ≡ None → (b ≡ false) × (o ≡ None)
not_first true x o e = cc
not_first false x o e = (refl, e)

not_second : {A : Type 0} (b : Bool) (x : A) (o : Option A) → cond b o (Some x) ≡ None → (b ≡ true) × (o ≡ None)
not_second true x o e = (refl, e)
not_second false x o e = cc

-- tests of the specs and what they say
within_says : (s : Spot) → Decides (within s) (Within s)
within_says s = (λ e. record { zone = grind (arith, nat_tests); level = grind (arith, nat_tests) }, λ h. grind (arith, nat_tests))

fits_says : (n : ℕ) (r : TableRow) → Decides (fits n r) (Fits n r)
fits_says n r = (
  λ e.
      let p = and_parts (within r.from) (within r.to && ltb r.act n) e in
      let q = and_parts (within r.to) (ltb r.act n) p.1 in
      record { from = (within_says r.from).0 p.0; act = ltb-true r.act n q.1; to = (within_says r.to).0 q.0 },
  λ h.
      and_from (within r.from) (within r.to && ltb r.act n) ((within_says r.from).1 h.from)
      (and_from (within r.to) (ltb r.act n) ((within_says r.to).1 h.to) (lt-ltb r.act n h.act)),
)

follows_from : (r q : TableRow) → falls r q ≡ false → Follows r q
follows_from r q e = record { zone = grind (arith, nat_tests); level = λ f. grind (arith, nat_tests); act = λ f g. grind (arith, nat_tests) }

follows_to : (r q : TableRow) → Follows r q → falls r q ≡ false
follows_to r q h = grind (arith, nat_tests)

levels_say : (ws : List ℕ) → Decides (every (λ w. leb w 64) ws) (All (λ w. w ≤ 64) ws)
levels_say ws = Decides-by_and (λ w. leb w 64) (λ w. w ≤ 64) (every (λ w. leb w 64)) (λ w. (leb-true w 64, le-leb w 64)) refl (λ _ _. refl) ws

-- a row of a spot and act has their fields
record SameKey (s : Spot) (a : ℕ) (r : TableRow) : Type 0 where
  zone : r.from.zone ≡ s.zone
  level : r.from.level ≡ s.level
  act : r.act ≡ a

leads_from : (s : Spot) (a : ℕ) (r : TableRow) → leads s a r ≡ true → SameKey s a r
leads_from s a r e = record { zone = grind (arith, nat_tests); level = grind (arith, nat_tests); act = grind (arith, nat_tests) }

leads_itself : (r : TableRow) → leads r.from r.act r ≡ true
leads_itself r = grind (arith, nat_tests)

rows_same : (rows : List TableRow) (s : Spot) (a : ℕ) (r : TableRow) → SameKey s a r → rows_of rows r.from r.act ≡ rows_of rows s a
rows_same rows s a r h =
    let K : ℕ → ℕ → ℕ → List TableRow = λ z l b. rows_of rows (record { zone = z; level = l }) b in
    ap (λ z. K z r.from.level r.act) h.zone ∙ ap (λ l. K s.zone l r.act) h.level ∙ ap (K s.zone s.level) h.act

kept_take : {A : Type 0} (p : A → Bool) (n : ℕ) (xs : List A) → length (filter p (take n xs)) ≤ length (filter p xs)
kept_take p n xs =
    let e = ap length (ap (filter p) (sym (take-append-drop n xs)) ∙ filter-append p (take n xs) (drop n xs)) ∙ length-append (filter p (take n xs)) (filter p (drop n xs)) in
    omega arith

-- at most eight rows of one spot and act, from the rows before each row and back
module _ (rows : List TableRow) where
  abbrev Few : Type 0
  Few = (i : ℕ) (r : TableRow) → slice_get rows i ≡ Some r → leb 8 (length (rows_of (take i rows) r.from r.act)) ≡ false

  few_from : Few → (s : Spot) (a : ℕ) → length (rows_of rows s a) ≤ 8
  few_from h s a = ap_take (up_to (length rows) (omega arith))
    where
      up_to : (i : ℕ) → i ≤ length rows → length (rows_of (take i rows) s a) ≤ 8
      up_to zero l = omega arith
      up_to (suc i) l =
          let c = length-filter_more (leads s a) rows i blank (omega arith) in
          let d : length (rows_of (take (suc i) rows) s a) ≡ length (rows_of (take i rows) s a) + cond (leads s a (get_or rows i blank)) 1 0 = ap (λ k. length (rows_of (take k rows) s a)) (sym (add-one i)) ∙ c in
          elim (cases_Bool (leads s a (get_or rows i blank))) [
            | inl t ↦
                let few = leb-false 8 (length (rows_of (take i rows) (get_or rows i blank).from (get_or rows i blank).act)) (h i (get_or rows i blank) (slice_get-get_or rows i blank (omega arith))) in
                let same = ap length (rows_same (take i rows) s a (get_or rows i blank) (leads_from s a (get_or rows i blank) t)) in
                let one : cond {A = ℕ} (leads s a (get_or rows i blank)) 1 0 ≡ 1 = cond-true (leads s a (get_or rows i blank)) 1 0 t in
                omega arith
            | inr f ↦
                let none : cond {A = ℕ} (leads s a (get_or rows i blank)) 1 0 ≡ 0 = cond-false (leads s a (get_or rows i blank)) 1 0 f in
                omega (arith, up_to i (omega arith))
          ]

      ap_take : length (rows_of (take (length rows) rows) s a) ≤ 8 → length (rows_of rows s a) ≤ 8
      ap_take k = let e = ap (λ xs. length (rows_of xs s a)) (take_all (length rows) rows (omega arith)) in omega arith

  few_to : ((s : Spot) (a : ℕ) → length (rows_of rows s a) ≤ 8) → Few
  few_to h i r at =
      let l : i < length rows = slice_get_within rows i r at in
      let k : get_or rows i r ≡ r = get_or_from_slice_get rows i r r at in
      let c = length-filter_more (leads r.from r.act) rows i r l in
      let one : cond {A = ℕ} (leads r.from r.act (get_or rows i r)) 1 0 ≡ 1 = ap (λ q. cond {A = ℕ} (leads r.from r.act q) 1 0) k ∙ cond-true (leads r.from r.act r) 1 0 (leads_itself r) in
      lt-leb 8 (length (rows_of (take i rows) r.from r.act)) (omega (arith, h r.from r.act, kept_take (leads r.from r.act) (i + 1) rows))

-- no wrong row is found exactly if none is wrong
module _ (n : ℕ) (rows : List TableRow) where
  none_wrong : (i k : ℕ) → first_wrong n rows i k ≡ None → (j : ℕ) → i ≤ j → j < i + k → wrong n rows j ≡ false
  none_wrong i zero e j l h = absurd (omega arith)
  none_wrong i (suc k) e j l h =
      let p = not_first (wrong n rows i) i (first_wrong n rows (suc i) k) e in
      elim (cases_lt i j) [ inl g ↦ none_wrong (suc i) k p.1 j g (omega arith) | inr g ↦ let s : j ≡ i = omega arith in ap (wrong n rows) s ∙ p.0 ]

  wrong_none : ((j : ℕ) → wrong n rows j ≡ false) → (i k : ℕ) → first_wrong n rows i k ≡ None
  wrong_none h i zero = refl
  wrong_none h i (suc k) = cond-false (wrong n rows i) _ _ (h i) ∙ wrong_none h (suc i) k

module _ (t : Table) where
  pub well_from : None ≡ table_fault t → WellMade t
  well_from e =
      let acts = not_first (ltb 16 t.acts) Acts _ (sym e) in
      let start = not_second (within t.start) Start _ acts.1 in
      let wanted = not_second (levels_fit t.wanted) Wanted _ start.1 in
      let many = not_first (ltb 32768 (length t.rows)) Rows _ wanted.1 in
      let levels = and_parts (eqb (length t.wanted) 64) (every (λ w. leb w 64) t.wanted) wanted.0 in
      let right : (i : ℕ) (r : TableRow) → slice_get t.rows i ≡ Some r → Right t.acts t.rows i r =
      λ i r at. right_from t.acts t.rows i r at (none_wrong t.acts t.rows 0 (length t.rows) (no_row many.1) i (omega arith) (let l = slice_get_within t.rows i r at in omega arith))
      in
      record {
        few_acts = ltb-false 16 t.acts acts.0;
        start_within = (within_says t.start).0 start.0;
        all_zones = eqb-true (length t.wanted) 64 levels.0;
        levels = all_at (λ w. w ≤ 64) t.wanted ((levels_say t.wanted).0 levels.1);
        few_rows = ltb-false 32768 (length t.rows) many.0;
        fields = λ i r at. (fits_says t.acts r).0 (right i r at).fit;
        order = λ i r q at next. follows_from r q (sym (rise_at t.acts t.rows i r q at) ∙ (right (suc i) q next).rise);
        few_outcomes = few_from t.rows (λ i r at. (right i r at).few);
      }
    where
      no_row : {o : Option ℕ} → row_fault o ≡ None → o ≡ None
      no_row {o} h = by o h
        where
          by : (o : Option ℕ) → row_fault o ≡ None → o ≡ None
          by None h = refl
          by (Some i) h = cc

  module _ (w : WellMade t) where
    rises : (i : ℕ) (r : TableRow) → slice_get t.rows i ≡ Some r → passes (λ q. falls q r) (back t.rows 1 i) ≡ false
    rises zero r at = refl
    rises (suc i) r at = ap (passes (λ q. falls q r)) (back_one t.rows i) ∙ by (slice_get t.rows i) refl
      where
        by : (o : Option TableRow) → slice_get t.rows i ≡ o → passes (λ q. falls q r) (slice_get t.rows i) ≡ false
        by None e = ap (passes (λ q. falls q r)) e
        by (Some p) e = ap (passes (λ q. falls q r)) e ∙ follows_to p r (w.order i p r e at)

    no_wrong : (i : ℕ) → wrong t.acts t.rows i ≡ false
    no_wrong i = by (slice_get t.rows i) refl
      where
        by : (o : Option TableRow) → slice_get t.rows i ≡ o → wrong t.acts t.rows i ≡ false
        by None e = ap (passes (wrong_after t.acts (back t.rows 1 i) (take i t.rows))) e
        by (Some r) e =
            right_to t.acts t.rows i r e
            (record { fit = (fits_says t.acts r).1 (w.fields i r e); rise = rises i r e; few = few_to t.rows w.few_outcomes i r e })

    well_to : table_fault t ≡ None
    well_to =
        cond-false (ltb 16 t.acts) _ _ (le-ltb 16 t.acts w.few_acts)
        ∙ cond-true (within t.start) _ _ ((within_says t.start).1 w.start_within)
        ∙ cond-true (levels_fit t.wanted) _ _ (and_from (eqb (length t.wanted) 64) (every (λ l. leb l 64) t.wanted) (eq-eqb (length t.wanted) 64 w.all_zones) ((levels_say t.wanted).1 (all_from (λ l. l ≤ 64) t.wanted w.levels)))
        ∙ cond-false (ltb 32768 (length t.rows)) _ _ (le-ltb 32768 (length t.rows) w.few_rows)
        ∙ ap row_fault (wrong_none t.acts t.rows no_wrong 0 (length t.rows))

    -- a spot or act outside the table's range has no rows
    no_rows : (s : Spot) (a : ℕ) → (within s && ltb a (min t.acts 16)) ≡ false → rows_of t.rows s a ≡ []
    no_rows s a e =
        kept_none (leads s a) t.rows (all_from (λ r. leads s a r ≡ false) t.rows (λ i r at.
        let few = w.few_acts in
        let f = w.fields i r at in
        grind (arith, nat_tests)))

    pub sorted : Sorted t.rows
    sorted = sorted_from t.rows (λ i r q at next. follows_to r q (w.order i r q at next))

    pub faithful : Faithful t
    faithful =
        record {
          all_rows = λ s a.
              elim (cases_Bool (within s && ltb a (min t.acts 16))) [
                | inl e ↦
                    let few : length (targets (rows_of t.rows s a)) ≤ 8 = let l = length-map (rows_of t.rows s a) (λ r. r.to) in omega (arith, w.few_outcomes s a) in
                    cond-true (within s && ltb a (min t.acts 16)) _ _ e ∙ ap (λ xs. take 8 (targets xs)) (block_all t.rows s a sorted) ∙ take_all 8 (targets (rows_of t.rows s a)) few
                | inr e ↦ cond-false (within s && ltb a (min t.acts 16)) _ _ e ∙ sym (ap targets (no_rows s a e))
              ];
          halvings = λ s a k h. seek_enough t.rows s a k (length t.rows) 0 (length t.rows) (omega arith) (omega arith);
        }

  pub refused : (f : TableFault) → Some f ≡ table_fault t → WellMade t → ⊥
  refused f e w = let n : table_fault t ≡ None = well_to w in cc
