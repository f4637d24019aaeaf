-- A session stays laid over the same lists. Assumes nothing.
use Rattle.std.proofs.Common.{refl, ◌∙◌}
use Rattle.session.specs.declared.lists.Session.{Session}
use Rattle.session.specs.Views.{SameLists}

module _ {S : Type 0} where
  pub lists_same : (s : Session S) → SameLists s s
  lists_same s = record { states = refl; rows = refl }

  pub lists_on : (s t r : Session S) → SameLists s t → SameLists t r → SameLists s r
  lists_on s t r a b = record { states = b.states ∙ a.states; rows = b.rows ∙ a.rows }
