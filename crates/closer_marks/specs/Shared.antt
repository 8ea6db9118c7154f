-- Whether what a step found is a heap record that shares a byte with a site before it or behind it. Definitions only.
use Rattle.std.specs.Prelude.{Bool, not, ◌&&◌, ◌||◌, List, eqb}
use Rattle.table.specs.Closing.{Site}
use Rattle.closing_laws.specs.Whole.{hits}
use Rattle.closer_sites.specs.declared.Named.{Named}

abbrev pub shares : Named → List Site → List Site → Bool
shares x pre rest = (not (eqb x.kind 0) && not (eqb x.len 0)) && (hits x.off x.len pre || hits x.off x.len rest)
