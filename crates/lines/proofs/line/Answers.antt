use Rattle.std.proofs.Common.{◌≡◌, length, sym, ap, ◌∙◌, ap₂, rules}
use Rattle.std.proofs.lemmas.Bool.{lt-ltb, le-ltb}
use Rattle.session.specs.declared.plain.Standing.TheVariants.{Working}
use Rattle.session.specs.Views.{view}
use Rattle.lines.specs.declared.LineStop.{LineStop}
use Rattle.lines.specs.Stops.{line_answer}
use Rattle.lines.specs.Texts.{text}
use Rattle.lines.proofs.Printing.{printed, refused}
use Rattle.lines.proofs.line.Goals as goal

pub returns-then-buffer-lt-ROOM : goal.returns-then-buffer-lt-ROOM
returns-then-buffer-lt-ROOM g c =
    let v = view c.args.session.now in
    refused (g.B.Book.meaning c.args.book.now) (g.met.B.Book.lawful c.args.book.now) c.args.index v c.args.buffer.now LineStop.Short
    (λ n. ap (λ b. line_answer b v.plain.progress.standing n) (sym (lt-ltb (length c.args.buffer.now) 64 c.if-buffer-lt-ROOM.true)))

pub returns-then-eq : goal.returns-then-eq
returns-then-eq g c =
    let v = view c.args.session.now in
    let e = c.eq.ensures in
    let working : c.progress.result.standing ≡ Working = search rules in
    refused (g.B.Book.meaning c.args.book.now) (g.met.B.Book.lawful c.args.book.now) c.args.index v c.args.buffer.now LineStop.Working
    (λ n. sym (ap₂ (λ b st. line_answer b st n) (le-ltb (length c.args.buffer.now) 64 c.if-buffer-lt-ROOM.false) (ap (λ p. p.standing) (sym c.progress.ensures) ∙ working)))

pub returns : goal.returns
returns g c =
    printed (g.B.Book.meaning c.args.book.now) (g.met.B.Book.lawful c.args.book.now) c.args.index (view c.args.session.now) c.args.buffer.now (text c.told.result) c.put.new.buffer c.put.result c.if-buffer-lt-ROOM.false
    (λ e. let s : c.progress.result.standing ≡ Working = ap (λ p. p.standing) c.progress.ensures ∙ e in let k = c.eq.ensures in let f = c.if-eq.false in search rules) c.told.ensures c.put.ensures.answer c.put.ensures.after
