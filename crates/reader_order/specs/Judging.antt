-- Tests 2 to 4 and 6 to 9 over what was read and counted. Definitions only.
use Rattle.std.specs.Prelude.{◌&&◌, List, [], ◌∷◌, ℕ, leb, eqb}
use Rattle.table.specs.Layout.{base_of}
use Rattle.table.specs.FixedLayouts.{host}
use Rattle.table.specs.Rules.{Test, test}
use Rattle.table.specs.Meaning.{limit}

unfoldable pub size_tests : ℕ → ℕ → ℕ → List Test
size_tests signature size lent =
    test (eqb signature 0x5446424E) 2 0 0 ∷ test (leb 160 size && leb size lent) 3 0 0 ∷ test (leb size limit) 4 0 0 ∷ []

unfoldable pub judged : ℕ → ℕ → ℕ → ℕ → ℕ → ℕ → ℕ → List Test
judged major control hostlen short misplaced version wrong =
    test (eqb major 1) 6 0 0
    ∷ test (eqb control 0) 7 1 0
    ∷ test (leb (base_of host) hostlen && (eqb short 0 && eqb misplaced 0)) 8 1 0
    ∷ test (eqb version 1 && eqb wrong 0) 9 1 0
    ∷ []
