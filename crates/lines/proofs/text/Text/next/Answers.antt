use Rattle.std.proofs.Common.{decimal}
use Rattle.lines.specs.Texts.{text}
use Rattle.lines.proofs.Wording.{word_next}
use Rattle.lines.proofs.text.Text.next.Goals as goal

pub returns : goal.returns
returns c = word_next (text c.args.self.now) (text c.word.new.self) (text c.number.new.self) (decimal c.args.n) c.word.ensures c.number.ensures
