use Rattle.std.proofs.Common.{◌≡◌, [], ◌∷◌, decimal, None, sym, ap, ◌∙◌, rules}
use Rattle.planning.specs.Going.{outcomes_left}
use Rattle.planning.specs.Finding.{place_of}
use Rattle.lines.specs.Texts.{text}
use Rattle.lines.specs.Words.{number_word, outcome_words}
use Rattle.lines.proofs.Writing.{written_none}
use Rattle.lines.proofs.Wording.{ahead, line_whole, next_word, place_names}
use Rattle.lines.proofs.tell.row_line.Goals as goal
use Rattle.lines.proofs.tell.row_line.Goals.{in-Some+in-None, in_default}

pub loop-o-init : goal.loop-o-init
loop-o-init g c =
    let m = g.B.Book.meaning in
    let t = text c.next_or_blank-2.new.self in
    let ts = c.args.states.now in
    ap (λ o. ahead t (place_names (m c.args.book.now) ts (outcomes_left m o))) c.into_iter-o-iterator.ensures.into_iter_gives
    ∙ ap (λ os. ahead t (place_names (m c.args.book.now) ts os)) c.new-o-items.ensures

pub loop-o-preserved : goal.loop-o-preserved
loop-o-preserved g c =
    let m = g.B.Book.meaning in
    let t = text c.loop-o.text in
    let ts = c.args.states.now in
    let left = c.next.new.self in
    next_word t (text c.next_or_blank-in-loop-o.new.self) (number_word (place_of (m c.args.book.now) ts c.in-Some-o.o))
    (place_names (m c.args.book.now) ts (outcomes_left m left))
    (c.next_or_blank-in-loop-o.ensures ∙ ap (λ p. ahead t (number_word p ∷ [])) c.find.ensures)
    ∙ ap (λ os. ahead t (place_names (m c.args.book.now) ts os)) (sym c.in-Some-o.ensures.steps) ∙ c.loop-o.invariant

pub returns : goal.returns
returns g c =
    let rank : c.map.result ≡ c.args.row.rank = search rules in
    let act : c.map-2.result ≡ c.args.row.act = search rules in
    let m = g.B.Book.meaning c.args.book.now in
    let ts = c.args.states.now in
    let words = outcome_words m ts c.args.s c.args.row.act in
    let t₁ = text c.number.new.self in
    let t₂ = text c.next_or_blank.new.self in
    let t₃ = text c.next_or_blank-2.new.self in
    let told : text c.match-row.text ≡ ahead t₃ words =
    elim c.match-row.branch [
      | in-Some+in-None w ↦
          ap text w.text-is ∙ written_none w.loop-o.text.bytes.items ∙ ap (λ os. ahead (text w.loop-o.text) (place_names m ts os)) (sym w.in-None.ensures.steps.0)
          ∙ w.loop-o.invariant ∙ ap (λ a. ahead t₃ (outcome_words m ts c.args.s a)) (sym w.in-Some.is)
      | in_default w ↦
          let none : c.args.row.act ≡ None = search rules in
          ap text w.text-is ∙ written_none c.next_or_blank-2.new.self.bytes.items ∙ ap (λ a. ahead t₃ (outcome_words m ts c.args.s a)) (sym none)
    ] in
    line_whole (text c.new-text.result) t₁ (text c.match-row.text) (text c.word.new.self) (decimal c.args.i) (number_word c.args.row.rank ∷ number_word c.args.row.act ∷ words) c.new-text.ensures
    c.number.ensures
    (told ∙ next_word t₂ t₃ (number_word c.args.row.act) words (c.next_or_blank-2.ensures ∙ ap (λ a. ahead t₂ (number_word a ∷ [])) act)
    ∙ next_word t₁ t₂ (number_word c.args.row.rank) (number_word c.args.row.act ∷ words) (c.next_or_blank.ensures ∙ ap (λ r. ahead t₁ (number_word r ∷ [])) rank))
    c.word.ensures
