use Rattle.std.proofs.Common.{◌≡◌, ◌∙◌, ◌-◌, ap, drop, length, length-drop, sym, take, arith, rules, tests}
use Rattle.std.specs.List.{slice_get, take_while}
use Rattle.std.specs.Option.{option_map}
use Rattle.std.proofs.lemmas.Iterator.{YieldsList-from_slice}
use Rattle.std.proofs.lemmas.Iterator.Search.{YieldsList-from_take_while}
use Rattle.std.proofs.lemmas.Iterator.Consumers.{nth_from_yields_List}
use Rattle.std.proofs.lemmas.List.{take_all}
use Rattle.tables.specs.Books.{held}
use Rattle.tables.specs.Looking.{first_row}
use Rattle.tables.specs.Rows.{leads}
use Rattle.tables.proofs.Seeking.{outcome_at}
use Rattle.tables.proofs.table.MoveTableBook.outcome.Goals as goal

pub returns : goal.returns
returns c =
    let rows = c.args.self.now.rows.now in
    let s = c.args.s in
    let a = c.args.act in
    let test = leads s a in
    let f = c.first_row.result in
    let xs = drop (first_row rows s a) rows in
    let led : c.map.result ≡ option_map (λ r. r.now.to) c.nth.result = search rules in
    let part : c.take_while.result.iter.rest.now ≡ take (length rows - f) (drop f rows) = search rules in
    let found : c.take_while.result.iter.rest.now ≡ xs = part ∙ take_all (length rows - f) (drop f rows) (omega (arith, length-drop f rows)) ∙ ap (λ n. drop n rows) c.first_row.ensures in
    let got : option_map (λ r. r.now) c.nth.result ≡ slice_get (take_while test xs) c.from.result =
    nth_from_yields_List c.nth.result _ c.from.result c.nth.ensures.ran (YieldsList-from_take_while _ test (YieldsList-from_slice xs found) c.take_while.ensures.closure c.take_while.ensures.done (λ x b q k. search (rules, tests)))
    in
    led
    ∙ outcome_at (held c.args.self.now) s a c.args.number c.nth.result
    (sym c.within.ensures ∙ c.if-not-within.false)
    (let n = c.acts.ensures in omega (arith, c.if-act-acts.false))
    c.if-number-ge-MOST_OUTCOMES.false (got ∙ ap (slice_get (take_while test xs)) c.from.ensures)
