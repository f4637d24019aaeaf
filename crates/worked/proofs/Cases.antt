-- All worked cases. Assumes nothing.
use Rattle.std.proofs.Common.{refl}
use Rattle.worked.specs.Worked.{Lines, WorkedCases}
use Rattle.worked.proofs.Knowing.{knowing, looking}
use Rattle.worked.proofs.Portioning.{in_places, in_portions}
use Rattle.worked.proofs.Printing.{example_accepted, example_lines, half_look_lines, mended_lines, slip_lines, without_look_lines}

lines : Lines
lines =
    record {
      example_accepted = example_accepted;
      example_lines = example_lines;
      half_look_lines = half_look_lines;
      without_look_lines = without_look_lines;
      mended_lines = mended_lines;
      slip_accepted = refl;
      slip_lines = slip_lines;
    }

pub worked_cases : WorkedCases
worked_cases = record { knowing = knowing; looking = looking; lines = lines; places_needed = in_places; portions = in_portions }
