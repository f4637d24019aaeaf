use Rattle.std.proofs.Common.{rules, ◌%◌, ◌∷◌, Some, None, map, length, sym, ap, ◌∙◌, arith}
use Rattle.sheets.specs.Events.{entry, events_of}
use Rattle.knowledge.specs.Acting.{act_of, event_of}
use Rattle.knowledge.specs.Moves.{possible_at, move_of, moves_of}
use Rattle.knowledge.proofs.Moving.{found}
use Rattle.knowledge.proofs.moves.MovesIterator.next.Goals as goal

pub returns-in_err-event-clause-steps : goal.returns-in_err-event-clause-steps
returns-in_err-event-clause-steps c =
    let m = c.args.self.now in
    let n = m.cell.letters in
    let none = found (λ e. events_of e.rest.now) entry (event_of n) (possible_at n m.cell.mask m.valuation) m.events c.find.new.self None c.in_err-event.ensures.ran (λ x b q k. search rules) in
    rw c.from_residual.ensures (ap (map (move_of n m.valuation)) none.0, ap (map (move_of n m.valuation)) none.1)

pub returns-clause-steps : goal.returns-clause-steps
returns-clause-steps c =
    let m = c.args.self.now in
    let n = m.cell.letters in
    let e = c.in_ok-event.event in
    let some = found (λ e. events_of e.rest.now) entry (event_of n) (possible_at n m.cell.mask m.valuation) m.events c.find.new.self (Some e) c.in_ok-event.ensures.ran (λ x b q k. search rules) in
    ap (map (move_of n m.valuation)) some
    ∙ ap (λ v. record { class = e.class % 8; valuation = v } ∷ moves_of n m.cell.mask m.valuation (act_of n c.find.new.self.rest.now)) (sym c.moved.ensures)

pub returns-clause-goes : goal.returns-clause-goes
returns-clause-goes c =
    let fewer = ap length (returns-clause-steps c) in
    record { on = λ _. (search rules, search rules, omega (arith, fewer)); keeps = search rules; rests = search rules }
