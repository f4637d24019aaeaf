-- Formulas and the act look where the agent does not know whether the patch is folded, by computing. Assumes nothing.
use Rattle.std.proofs.Common.{refl}
use Rattle.epistemic.specs.Bits.{mask, image}
use Rattle.worked.specs.Worked.{Knowing, Looking}

pub knowing : Knowing
unfolding mask
knowing =
    record {
      valuations = refl;
      known_text = refl;
      known_nowhere = λ v _. refl;
      known_mask = refl;
      possible_text = refl;
      possible_everywhere = λ v _. refl;
      possible_mask = refl;
    }

pub looking : Looking
unfolding mask image
looking =
    record {
      applicable_whole = refl;
      outcomes_whole = refl;
      applicable_half = refl;
      outcomes_half = refl;
    }
