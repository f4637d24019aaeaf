-- One state joins the list that a session holds; and joining, one list after another. Assumes nothing.
use Rattle.std.proofs.Common.{◌≡◌, ℕ, ◌+◌, ◌-◌, ◌<◌, ◌≤◌, min, true, false, cond, List, [], ◌∷◌, ◌++◌, map, length, take, drop, set, Some, None, Option, true≢false, sym, refl, ap, ◌∙◌, subst, ap₂, arith}
use Rattle.std.specs.Option.{is_some}
use Rattle.std.proofs.lemmas.List.{length-set, length_push, take_more_set, drop-set-lt, drop-drop, take_all, take-append-le, map_push}
use Rattle.session.specs.declared.plain.Row.{Row}
use Rattle.planning.specs.Meaning.{Meaning}
use Rattle.planning.proofs.Seen.{seen_listed, placed_none}
use Rattle.planning.specs.Finding.{listed, joined, place_of}
use Rattle.session.specs.ClosedForm.{row_by}
use Rattle.session.specs.Views.{View, places}
use Rattle.session.specs.Calls.{RestKept}
use Rattle.session.specs.Joins.{Keeps, Lists, Tried, Joins}

-- sessions over lists as long as before have as many places
pub same_places : {S : Type 0} (k : ℕ) (v w : View S) → RestKept k v w → places w ≡ places v
same_places k v w a = ap₂ (λ i j. min (min i j) 4096) a.states_length a.rows_length

pub keeps_same : {S : Type 0} (v : View S) → Keeps v v
keeps_same v = record { walk = refl; grows = omega arith; rest = record { states_length = refl; rows_length = refl; unused_states = refl; unused_rows = refl } }

drop_further : {X : Type 0} (a b : ℕ) (xs ys : List X) → a ≤ b → drop a xs ≡ drop a ys → drop b xs ≡ drop b ys
drop_further a b xs ys h e =
    let f : b ≡ a + (b - a) = omega arith in
    ap (λ n. drop n xs) f ∙ sym (drop-drop (b - a) a xs) ∙ ap (drop (b - a)) e ∙ drop-drop (b - a) a ys ∙ ap (λ n. drop n ys) (sym f)

pub keeps_on : {S : Type 0} (v w x : View S) → Keeps v w → Keeps w x → Keeps v x
keeps_on v w x a b =
    record {
      walk = b.walk ∙ a.walk;
      grows = omega arith;
      rest =
          record {
            states_length = b.rest.states_length ∙ a.rest.states_length;
            rows_length = b.rest.rows_length ∙ a.rest.rows_length;
            unused_states = b.rest.unused_states ∙ drop_further w.plain.listed x.plain.listed w.states v.states b.grows a.rest.unused_states;
            unused_rows = b.rest.unused_rows ∙ drop_further w.plain.listed x.plain.listed w.rows v.rows b.grows a.rest.unused_rows;
          };
    }

-- an option by what the test of it says
pub some_is : (o : Option ℕ) → is_some o ≡ true → (p : ℕ) × (o ≡ Some p)
some_is None e = absurd (true≢false (sym e))
some_is (Some p) e = (p, refl)

pub none_is : (o : Option ℕ) → is_some o ≡ false → o ≡ None
none_is None e = refl
none_is (Some p) e = absurd (true≢false e)

module _ {S : Type 0} (m : Meaning S) (s : S) (v : View S) where
  abbrev pub held : List S
  held = take v.plain.listed v.states

  held_is : (ts : List S) → Lists m ts v → held ≡ ts
  held_is ts l = ap (λ n. take n v.states) l.count ∙ l.states_are

  pub join_there : is_some (place_of m held s) ≡ true → Joins m (s ∷ []) v true v
  join_there e =
      record {
        lists = λ ts l. let p = some_is (place_of m held s) e in
            let h : listed m ts s ≡ true = ap (λ xs. listed m xs s) (sym (held_is ts l)) ∙ seen_listed m s 0 held p.0 p.1 in
            let j : joined m ts s ≡ ts = ap (λ b. cond b ts (ts ++ s ∷ [])) h in
            subst (λ xs. Lists m xs v) (sym j) l;
        progress = refl;
        keeps = keeps_same v;
      }

  joins_end : (ts : List S) → Lists m ts v → is_some (place_of m held s) ≡ false → joined m ts s ≡ ts ++ s ∷ []
  joins_end ts l e = ap (λ b. cond b ts (ts ++ s ∷ [])) (ap (λ xs. listed m xs s) (sym (held_is ts l)) ∙ placed_none m s 0 held (none_is (place_of m held s) e))

  pub join_full : is_some (place_of m held s) ≡ false → v.plain.listed ≡ places v → Joins m (s ∷ []) v false v
  join_full e f =
      record {
        lists = λ ts l. let j = joins_end ts l e in
            let n : places v ≡ length ts = sym f ∙ l.count in
            let k : length (ts ++ s ∷ []) ≡ length ts + 1 = length_push ts s in
            let t : take (places v) (ts ++ s ∷ []) ≡ ts = ap (λ n. take n (ts ++ s ∷ [])) n ∙ take-append-le (length ts) ts (s ∷ []) (omega arith) ∙ take_all (length ts) ts (omega arith) in
            subst (λ xs. Tried m false xs v) (sym j) (let o : places v < length (ts ++ s ∷ []) = omega arith in (o, subst (λ xs. Lists m xs v) (sym t) l));
        progress = refl;
        keeps = keeps_same v;
      }

  module _ (row : Row) where
    abbrev pub grown : View S
    grown = record { states = set v.states v.plain.listed s; rows = set v.rows v.plain.listed row; plain = record { listed = v.plain.listed + 1; progress = v.plain.progress; walk = v.plain.walk } }

    pub join_new : is_some (place_of m held s) ≡ false → v.plain.listed < places v → row ≡ row_by m 0 s → Joins m (s ∷ []) v true grown
    join_new e f q =
        record {
          lists = λ ts l. subst (λ xs. Lists m xs grown) (sym (joins_end ts l e)) (now_lists ts l);
          progress = refl;
          keeps =
              record {
                walk = refl;
                grows = omega arith;
                rest =
                    record {
                      states_length = length-set v.states v.plain.listed s;
                      rows_length = length-set v.rows v.plain.listed row;
                      unused_states = drop-set-lt (v.plain.listed + 1) v.states v.plain.listed s (omega arith);
                      unused_rows = drop-set-lt (v.plain.listed + 1) v.rows v.plain.listed row (omega arith);
                    };
              };
        }
      where
        now_lists : (ts : List S) → Lists m ts v → Lists m (ts ++ s ∷ []) grown
        now_lists ts l =
            let n = v.plain.listed in
            let k : length (ts ++ s ∷ []) ≡ n + 1 = length_push ts s ∙ ap (λ i. i + 1) (sym l.count) in
            let a : take (n + 1) (set v.states n s) ≡ held ++ s ∷ [] = take_more_set v.states n s (omega arith) in
            let b : take (n + 1) (set v.rows n row) ≡ take n v.rows ++ row ∷ [] = take_more_set v.rows n row (omega arith) in
            let r : take n v.rows ≡ map (row_by m 0) ts = ap (λ i. take i v.rows) l.count ∙ l.rows_are in
            record {
              count = sym k;
              fits = simp length-set (omega arith);
              states_are = ap (λ i. take i (set v.states n s)) k ∙ a ∙ ap (λ xs. xs ++ s ∷ []) (held_is ts l);
              rows_are = ap (λ i. take i (set v.rows n row)) k ∙ b ∙ ap (λ xs. xs ++ row ∷ []) r ∙ ap (λ x. map (row_by m 0) ts ++ x ∷ []) q ∙ sym (map_push (row_by m 0) ts s);
            }
