-- Every table is a lawful book. Assumes nothing.
use Rattle.std.proofs.Common.{◌≡◌, ℕ, ◌≤◌, min, ◌&&◌, T, eqb, ltb, [], length, take, refl, ap, ◌∙◌}
use native.Mathlib.Nat.{min-le_right}
use Rattle.std.proofs.lemmas.Bool.{and_from, and_parts, and_right, cond_both, cond-false, eq-eqb, eqb-true, le-ltb}
use Rattle.planning.specs.Meaning.{Lawful}
use Rattle.planning.proofs.Tests.{holds, so}
use Rattle.planning.proofs.Lists.{front_short, none_below}
use Rattle.planning.proofs.Equality.{lawful_by_equality}
use Rattle.tables.specs.Books.{outcomes, table_meaning}
use Rattle.tables.specs.Looking.{block}
use Rattle.tables.specs.Rows.{targets}
use Rattle.tables.specs.Spots.{same_spot, within}
use Rattle.tables.specs.Tables.{Table}
use Rattle.tables.specs.declared.spot.Spot.{Spot}

-- sameness of spots is equality
same_itself : (s : Spot) → T (same_spot s s)
same_itself s = holds (same_spot s s) (and_from (eqb s.zone s.zone) (eqb s.level s.level) (eq-eqb s.zone s.zone refl) (eq-eqb s.level s.level refl))

same_from : (s t : Spot) → T (same_spot s t) → s ≡ t
same_from s t h =
    let p = and_parts (eqb s.zone t.zone) (eqb s.level t.level) (so (same_spot s t) h) in
    let spot : ℕ → ℕ → Spot = λ z l. record { zone = z; level = l } in
    ap (λ z. spot z s.level) (eqb-true s.zone t.zone p.0) ∙ ap (spot t.zone) (eqb-true s.level t.level p.1)

module _ (t : Table) where
  few : (s : Spot) (a : ℕ) → length (outcomes t s a) ≤ 8
  few s a =
      cond_both (within s && ltb a (min t.acts 16)) (take 8 (targets (block t.rows s a))) [] (λ ss. length ss ≤ 8)
      (λ _. front_short 8 (targets (block t.rows s a)))
      (λ _. none_below 8)

  pub table_lawful : Lawful (table_meaning t)
  table_lawful =
      lawful_by_equality (table_meaning t) same_itself same_from (min-le_right t.acts 16)
      (λ s a h. cond-false (within s && ltb a (min t.acts 16)) _ _ (and_right (within s) (ltb a (min t.acts 16)) (le-ltb a (min t.acts 16) h)))
      few
