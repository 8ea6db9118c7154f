-- How bytes are printed, by the numbers that stand for it. Definitions only.
use Rattle.std.specs.Prelude.{ℕ, eqb}
use Rattle.table.specs.Bytes.{pick}
use Rattle.show.specs.declared.bytes.Style.{Style}
use Rattle.show.specs.declared.bytes.Style.TheVariants.{Digits, Characters, Quoted}

-- any number but 0 and 1 is that of a JSON string
abbrev pub style_of : ℕ → Style
style_of n = pick (eqb n 0) Digits (pick (eqb n 1) Characters Quoted)
