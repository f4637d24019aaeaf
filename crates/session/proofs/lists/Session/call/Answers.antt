use Rattle.std.proofs.Common.{length, refl, sym}
use Rattle.std.proofs.lemmas.Bool.{ltb-true, ltb-false}
use Rattle.std.proofs.lemmas.Option.{slice_get_read, slice_get-get_or}
use Rattle.session.specs.Views.{view}
use Rattle.session.proofs.Replaying.{made_work, made_ask, made_start, made_step, no_start, no_step}
use Rattle.session.proofs.lists.Session.call.Goals as goal

pub returns-in-Work-clause-made : goal.returns-in-Work-clause-made
returns-in-Work-clause-made g c = made_work (g.B.Book.meaning c.args.book.now) g.K.Bench.stands (g.K.Bench.fit c.args.book.now) (view c.args.self.now) c.args.call c.args.benches.now c.in-Work.quota c.work.result (view c.work.new.self) c.in-Work.is c.work.ensures.worked

pub returns-in-Ask-clause-made : goal.returns-in-Ask-clause-made
returns-in-Ask-clause-made g c = made_ask (g.B.Book.meaning c.args.book.now) g.K.Bench.stands (g.K.Bench.fit c.args.book.now) (view c.args.self.now) c.args.call c.args.benches.now c.in-Ask.s c.ask.result c.in-Ask.is c.ask.ensures

pub returns-in-Some-clause-made : goal.returns-in-Some-clause-made
returns-in-Some-clause-made g c =
    let named = slice_get_read c.args.benches.now (length c.args.benches.now) c.in-Start.k c.in-Some.bench.now refl (ltb-true _ _ (sym c.in-Some.ensures.lookup.0)) c.in-Some.ensures.lookup.1 in
    made_start (g.B.Book.meaning c.args.book.now) g.K.Bench.stands (g.K.Bench.fit c.args.book.now) (view c.args.self.now) c.args.call c.args.benches.now c.in-Start.k c.in-Some.bench.now named c.start.result (view c.start.new.self) c.in-Start.is c.start.ensures.started

pub returns-in-None-clause-made : goal.returns-in-None-clause-made
returns-in-None-clause-made g c = no_start (g.B.Book.meaning c.args.book.now) g.K.Bench.stands (g.K.Bench.fit c.args.book.now) (view c.args.self.now) c.args.call c.args.benches.now c.in-Start.k (ltb-false _ _ (sym c.in-None.ensures.lookup.0)) c.in-Start.is

pub returns-then-k-benches-clause-made : goal.returns-then-k-benches-clause-made
returns-then-k-benches-clause-made g c =
    let named = slice_get-get_or c.args.benches.now c.in-Step.k c.index-benches-k.result c.if-k-benches.true in
    made_step (g.B.Book.meaning c.args.book.now) g.K.Bench.stands (g.K.Bench.fit c.args.book.now) (view c.args.self.now) c.args.call c.args.benches.now c.in-Step.k _ named c.step.result c.step.new.bench (view c.step.new.self) c.in-Step.is c.step.ensures.stepped

pub returns-else-k-benches-clause-made : goal.returns-else-k-benches-clause-made
returns-else-k-benches-clause-made g c = no_step (g.B.Book.meaning c.args.book.now) g.K.Bench.stands (g.K.Bench.fit c.args.book.now) (view c.args.self.now) c.args.call c.args.benches.now c.in-Step.k c.if-k-benches.false c.in-Step.is
