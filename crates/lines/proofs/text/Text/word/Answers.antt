use Rattle.lines.proofs.Writing.{word_in}
use Rattle.lines.proofs.text.Text.word.Goals as goal

pub returns : goal.returns
returns c = word_in c.args.self.now.bytes.items c.write-taken.new.self.items c.args.word.now c.write-taken.result c.write-taken.ensures.bytes c.write-taken.ensures.count
