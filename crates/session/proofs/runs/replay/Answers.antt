use Rattle.std.proofs.Common.{◌≡◌, sym, arith, rules}
use Rattle.session.specs.Views.{view}
use Rattle.session.specs.Replays.{posts_of}
use Rattle.session.proofs.Lending.{lists_same, lists_on}
use Rattle.session.proofs.Replaying.{gone_none, gone_on, gone_all}
use Rattle.session.proofs.Promised.{promised}
use Rattle.session.proofs.runs.replay.Goals as goal

pub loop-i-init : goal.loop-i-init
loop-i-init g c = (lists_same _, gone_none (g.B.Book.meaning c.args.book.now) _ _ c.args.calls.now c.args.answers.now)

pub loop-i-preserved : goal.loop-i-preserved
loop-i-preserved g c =
    let m = g.B.Book.meaning c.args.book.now in
    let posts = posts_of g.K.Bench.stands (g.K.Bench.fit c.args.book.now) in (
      lists_on _ c.loop-i.session c.call.new.self c.loop-i.invariant.0 c.call.ensures.lent,
      gone_on m _ (posts c.args.benches.now) c.args.calls.now c.args.answers.now c.loop-i.i (view c.loop-i.session) (view c.call.new.self) (posts c.loop-i.benches) (posts c.call.new.benches) c.loop-i.answers c.index-calls-i.result c.call.result (omega arith) c.index-calls-i.is (omega arith) c.loop-i.invariant.1 c.call.ensures.made,
    )

pub returns : goal.returns
returns g c =
    let m = g.B.Book.meaning c.args.book.now in
    let posts = posts_of g.K.Bench.stands (g.K.Bench.fit c.args.book.now) in
    let n = c.min-count.result in
    let same : c.loop-i.i ≡ n = omega arith in
    let states = sym c.loop-i.invariant.0.states in
    let rows = sym c.loop-i.invariant.0.rows in
    record {
      count = c.min-count.ensures;
      run = (
        view c.loop-i.session,
        (
          gone_all m _ (posts c.args.benches.now) c.args.calls.now c.args.answers.now c.args.states.now c.args.rows.now c.begin-record.ensures c.loop-i.i n (view c.loop-i.session) (posts c.loop-i.benches) c.loop-i.answers same c.loop-i.invariant.1,
          (search rules, search rules),
        ),
      );
      unused = c.loop-i.invariant.1.unused n (omega arith);
      promise = promised m (g.met.B.Book.lawful c.args.book.now);
    }
