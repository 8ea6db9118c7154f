-- Texts of ASCII characters as the bytes that are written. Assumes nothing.
use Rattle.std.specs.Prelude.{List, [] as none, ◌∷◌ as ◌then◌, ◌≡◌, refl, ℕ}
use Prim.Native.Char.{code}
use Prim.Native.String.{String, [], ◌∷◌}

abbrev pub ascii : String → List ℕ
ascii [] = none
ascii (c ∷ s) = code c then ascii s

pub good : ascii "good\n" ≡ 103 then 111 then 111 then 100 then 10 then none
good = refl
