use Rattle.std.proofs.Common.{refl, sym, ap, ◌∙◌}
use Rattle.planning.proofs.Tests.{holds}
use Rattle.session.specs.Walks.{post_of}
use Rattle.session.specs.Views.{view, ranked_place}
use Rattle.session.proofs.Walking.{same_walk, refusal, step_goal, step_refused, never_lost, step_acts}
use Rattle.session.proofs.lists.Session.step.Goals as goal

pub returns-in_default-clause-stepped : goal.returns-in_default-clause-stepped
returns-in_default-clause-stepped g c =
    let m = g.B.Book.meaning c.args.book.now in
    let law = g.met.B.Book.lawful c.args.book.now in
    let v = view c.args.self.now in
    let walk = c.in_ok-walk.walk in
    let held = c.in_ok-walk.ensures.ok_part in
    let s = c.in_ok-s.s in
    let at = sym c.state.ensures ∙ c.in_ok-s.ensures.ok_part in
    let near = holds (m.same s (g.K.Bench.stands c.args.bench.now)) (ap (m.same s) (sym c.state-2.ensures) ∙ sym c.if-not-same.ensures) in
    let row = sym c.row.ensures ∙ c.in_ok-row.ensures.ok_part in
    record { answer = λ u h. step_goal m law v walk held u h _ s at near c.in_ok-row.row row c.in_default.is; rest = same_walk m v }

pub returns-in_err-carry-clause-stepped : goal.returns-in_err-carry-clause-stepped
returns-in_err-carry-clause-stepped g c =
    let m = g.B.Book.meaning c.args.book.now in
    let law = g.met.B.Book.lawful c.args.book.now in
    let v = view c.args.self.now in
    let walk = c.in_ok-walk.walk in
    let held = c.in_ok-walk.ensures.ok_part in
    let s = c.in_ok-s.s in
    let at = sym c.state.ensures ∙ c.in_ok-s.ensures.ok_part in
    let near = holds (m.same s (g.K.Bench.stands c.args.bench.now)) (ap (m.same s) (sym c.state-2.ensures) ∙ sym c.if-not-same.ensures) in
    let row = sym c.row.ensures ∙ c.in_ok-row.ensures.ok_part in
    let why = c.in_err-carry.field-0.0 in
    let is = refusal c.from_residual-in_err-carry.result why c.from_residual-in_err-carry.ensures.0 c.from_residual-in_err-carry.ensures.1 in
    record { answer = λ u h. step_refused m law v walk held u h _ s at near c.in_ok-row.row row c.in-Some.act c.in-Some.is why c.from_residual-in_err-carry.result is _ c.in_err-carry.ensures.carried; rest = same_walk m v }

pub returns-in_default-ranked_place-clause-stepped : goal.returns-in_default-ranked_place-clause-stepped
returns-in_default-ranked_place-clause-stepped g c =
    let m = g.B.Book.meaning c.args.book.now in
    let law = g.met.B.Book.lawful c.args.book.now in
    let v = view c.args.self.now in
    let walk = c.in_ok-walk.walk in
    let held = c.in_ok-walk.ensures.ok_part in
    let s = c.in_ok-s.s in
    let at = sym c.state.ensures ∙ c.in_ok-s.ensures.ok_part in
    let near = holds (m.same s (g.K.Bench.stands c.args.bench.now)) (ap (m.same s) (sym c.state-2.ensures) ∙ sym c.if-not-same.ensures) in
    let row = sym c.row.ensures ∙ c.in_ok-row.ensures.ok_part in
    let lost = ap (ranked_place m v) (sym c.state-3.ensures) ∙ sym c.ranked_place.ensures ∙ c.in_default-ranked_place.is in
    record {
      answer = λ u h. absurd (never_lost m law v walk held u h _ s at near c.in_ok-row.row row c.in-Some.act c.in-Some.is (post_of g.K.Bench.stands (g.K.Bench.fit c.args.book.now) c.carry.new.self) c.in_ok-carry.ensures.carried.leaves lost);
      rest = record { states = refl; rows = refl; listed = refl; progress = refl };
    }

pub returns-clause-stepped : goal.returns-clause-stepped
returns-clause-stepped g c =
    let m = g.B.Book.meaning c.args.book.now in
    let law = g.met.B.Book.lawful c.args.book.now in
    let v = view c.args.self.now in
    let walk = c.in_ok-walk.walk in
    let held = c.in_ok-walk.ensures.ok_part in
    let s = c.in_ok-s.s in
    let at = sym c.state.ensures ∙ c.in_ok-s.ensures.ok_part in
    let near = holds (m.same s (g.K.Bench.stands c.args.bench.now)) (ap (m.same s) (sym c.state-2.ensures) ∙ sym c.if-not-same.ensures) in
    let row = sym c.row.ensures ∙ c.in_ok-row.ensures.ok_part in
    let found = ap (ranked_place m v) (sym c.state-3.ensures) ∙ sym c.ranked_place.ensures ∙ c.in-Some-ranked_place.is in
    record {
      answer = λ u h. step_acts m law v walk held u h _ s at near c.in_ok-row.row row c.in-Some.act c.in-Some.is _ c.in_ok-carry.ensures.carried.leaves c.in-Some-ranked_place.place c.in-Some-ranked_place.rank c.saturating_add.result found c.saturating_add.ensures;
      rest = record { states = refl; rows = refl; listed = refl; progress = refl };
    }
