use Rattle.std.proofs.Common.{◌+◌, map, get_or, drop, decimal, sym, ap, ◌∙◌}
use Rattle.std.proofs.lemmas.List.{at_drop_more, drop_all}
use Rattle.lines.specs.Texts.{text}
use Rattle.lines.proofs.Writing.{written_none}
use Rattle.lines.proofs.Wording.{ahead, line_whole, next_word}
use Rattle.lines.proofs.tell.counts.Goals as goal

pub loop-n-preserved : goal.loop-n-preserved
loop-n-preserved c =
    let xs = c.args.numbers.now in
    let i = c.loop-n.n-index in
    next_word (text c.loop-n.text) (text c.next.new.self) (decimal (get_or xs i 0)) (map decimal (drop (i + 1) xs)) c.next.ensures
    ∙ sym (at_drop_more (λ ns. ahead (text c.loop-n.text) (map decimal ns)) xs i 0 c.loop-n-test.true) ∙ c.loop-n.invariant

pub returns : goal.returns
returns c =
    let xs = c.args.numbers.now in
    let t = text c.loop-n.text in
    let told = written_none c.loop-n.text.bytes.items ∙ ap (λ ns. ahead t (map decimal ns)) (sym (drop_all c.loop-n.n-index xs c.loop-n-test.false)) ∙ c.loop-n.invariant in
    line_whole (text c.new-text.result) (text c.word.new.self) t (text c.word-2.new.self) c.args.word.now (map decimal xs) c.new-text.ensures c.word.ensures told c.word-2.ensures
