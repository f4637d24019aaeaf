-- Spots: which are within the table's range, and when two are one. Assumes nothing.
use Rattle.std.specs.Prelude.{Bool, ◌&&◌, ◌==◌, nat_le}
use Rattle.tables.specs.declared.spot.Spot.{Spot}

-- zone and level are at most 63
abbrev pub within : Spot → Bool
within s = nat_le s.zone 63 && nat_le s.level 63

-- zone and level are equal
abbrev pub same_spot : Spot → Spot → Bool
same_spot s t = s.zone == t.zone && s.level == t.level
