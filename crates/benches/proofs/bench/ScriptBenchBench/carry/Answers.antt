use Rattle.std.proofs.Common.{◌≡◌, ◌+◌, ◌%◌, length, drop, Err, Some, sym, subst, ◌∙◌, rules}
use Rattle.std.specs.List.{slice_get}
use Rattle.std.proofs.lemmas.Iterator.Consumers.{YieldsList-from_first, count_from_yields_List}
use Rattle.std.proofs.lemmas.List.{nil_from_length}
use Rattle.planning.specs.Going.{outcomes_left}
use Rattle.planning.proofs.Seeking.{drop_past}
use Rattle.session.specs.Stops.{carry_number}
use Rattle.session.specs.Walks.{Carried}
use Rattle.session.specs.declared.stops.CarryStop.{CarryStop}
use Rattle.benches.specs.Scripts.{Script, post, script}
use Rattle.benches.proofs.Choosing.{bare_answer, bare_carried, carried, next_byte, spent_answer, spent_carried, spent_leaves, took_answer, took_leaves}
use Rattle.benches.proofs.bench.ScriptBenchBench.carry.Goals as goal

pub returns-in_err-choice-clause-carried : goal.returns-in_err-choice-clause-carried
returns-in_err-choice-clause-carried g c =
    let m = g.B.Book.meaning c.args.book.now in
    let k = script c.args.self.now in
    let spent = drop_past c.args.self.now.choices.items c.args.self.now.used (search rules) in
    let r : c.from_residual.result ≡ Err CarryStop.NotReady = search rules in
    subst (λ q. Carried m (post k) c.args.act (carry_number q) (post k)) (sym r) (spent_carried m k.state c.args.act k.bytes spent)

pub returns-in_err-choice-clause-answer : goal.returns-in_err-choice-clause-answer
returns-in_err-choice-clause-answer g c =
    let m = g.B.Book.meaning c.args.book.now in
    let k = script c.args.self.now in
    let spent = drop_past c.args.self.now.choices.items c.args.self.now.used (search rules) in
    let r : c.from_residual.result ≡ Err CarryStop.NotReady = search rules in
    r ∙ spent_answer m k.state c.args.act k.bytes spent

pub returns-in_err-choice-clause-leaves : goal.returns-in_err-choice-clause-leaves
returns-in_err-choice-clause-leaves g c =
    let k = script c.args.self.now in
    spent_leaves (g.B.Book.meaning c.args.book.now) k.state c.args.act k.bytes (drop_past c.args.self.now.choices.items c.args.self.now.used (search rules))

pub returns-then-count-eq0-clause-carried : goal.returns-then-count-eq0-clause-carried
returns-then-count-eq0-clause-carried g c =
    let m = g.B.Book.meaning c.args.book.now in
    let k = script c.args.self.now in
    let os = m.outcomes k.state c.args.act in
    let next : slice_get c.args.self.now.choices.items c.args.self.now.used ≡ Some c.in_ok-choice.choice = search rules in
    let count : c.count-count.result ≡ length os = count_from_yields_List c.new.result c.count-count.result c.count-count.ensures.ran (YieldsList-from_first (λ x. x) (outcomes_left g.B.Book.meaning) os c.new.ensures) in
    bare_carried m k.state c.args.act k.bytes c.in_ok-choice.choice _ (next_byte c.args.self.now.choices.items c.args.self.now.used c.in_ok-choice.choice next) (nil_from_length os (sym count ∙ c.if-count-eq0.true))

pub returns-then-count-eq0-clause-answer : goal.returns-then-count-eq0-clause-answer
returns-then-count-eq0-clause-answer g c =
    let m = g.B.Book.meaning c.args.book.now in
    let k = script c.args.self.now in
    let os = m.outcomes k.state c.args.act in
    let next : slice_get c.args.self.now.choices.items c.args.self.now.used ≡ Some c.in_ok-choice.choice = search rules in
    let count : c.count-count.result ≡ length os = count_from_yields_List c.new.result c.count-count.result c.count-count.ensures.ran (YieldsList-from_first (λ x. x) (outcomes_left g.B.Book.meaning) os c.new.ensures) in
    bare_answer m k.state c.args.act k.bytes c.in_ok-choice.choice _ (next_byte c.args.self.now.choices.items c.args.self.now.used c.in_ok-choice.choice next) (nil_from_length os (sym count ∙ c.if-count-eq0.true))

pub returns-clause-answer : goal.returns-clause-answer
returns-clause-answer g c =
    let m = g.B.Book.meaning c.args.book.now in
    let k = script c.args.self.now in
    let os = m.outcomes k.state c.args.act in
    let next : slice_get c.args.self.now.choices.items c.args.self.now.used ≡ Some c.in_ok-choice.choice = search rules in
    let taken : slice_get os (c.in_ok-choice.choice % c.count-count.result) ≡ Some c.in_ok-self.field-0 = search rules in
    took_answer k.bytes _ os c.in_ok-choice.choice _ c.in_ok-self.field-0 (next_byte c.args.self.now.choices.items c.args.self.now.used c.in_ok-choice.choice next) taken

pub returns-clause-leaves : goal.returns-clause-leaves
returns-clause-leaves g c =
    let m = g.B.Book.meaning c.args.book.now in
    let k = script c.args.self.now in
    let bytes = c.args.self.now.choices.items in
    let os = m.outcomes k.state c.args.act in
    let byte = c.in_ok-choice.choice in
    let left = drop (c.args.self.now.used + 1) bytes in
    let next : slice_get bytes c.args.self.now.used ≡ Some byte = search rules in
    let count : c.count-count.result ≡ length os = count_from_yields_List c.new.result c.count-count.result c.count-count.ensures.ran (YieldsList-from_first (λ x. x) (outcomes_left g.B.Book.meaning) os c.new.ensures) in
    let taken : slice_get os (byte % c.count-count.result) ≡ Some c.in_ok-self.field-0 = search rules in
    took_leaves k.state k.bytes left os byte c.count-count.result c.in_ok-self.field-0 (next_byte bytes c.args.self.now.used byte next) count taken

pub returns-clause-carried : goal.returns-clause-carried
returns-clause-carried g c =
    let m = g.B.Book.meaning c.args.book.now in
    let k = script c.args.self.now in
    let bytes = c.args.self.now.choices.items in
    let os = m.outcomes k.state c.args.act in
    let byte = c.in_ok-choice.choice in
    let left = drop (c.args.self.now.used + 1) bytes in
    let after : Script _ = record { state = c.in_ok-self.field-0; bytes = left } in
    let next : slice_get bytes c.args.self.now.used ≡ Some byte = search rules in
    let taken : slice_get os (byte % c.count-count.result) ≡ Some c.in_ok-self.field-0 = search rules in
    let answer = took_answer k.bytes left os byte _ c.in_ok-self.field-0 (next_byte bytes c.args.self.now.used byte next) taken in
    carried m (g.met.B.Book.lawful c.args.book.now) k after c.args.act answer (returns-clause-leaves g c)
