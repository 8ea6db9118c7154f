-- Rules 7 (docs/RULES.md), the rewriter: what it answers, and what it leaves in the lent output, on any bytes. Definitions only.
use Rattle.std.specs.Prelude.{List, [], ◌∷◌, ℕ, length, leb, eqb}
use Rattle.table.specs.declared.Answer.{Answer}
use Rattle.table.specs.declared.Rewritten.{Rewritten}
use Rattle.table.specs.Bytes.{pick, splice}
use Rattle.table.specs.Rules.{first, test, first_fail}
use Rattle.table.specs.Meaning.{limit, meaning, form_length, form}
use Rattle.table.specs.Numbers.{check}

-- the reader's answer, then 17, then 14
unfoldable pub rewrite_answer : List ℕ → ℕ → Answer
rewrite_answer t room =
    let n = form_length (meaning t) in
    first (check t) (first_fail (test (leb n limit) 17 0 0 ∷ test (leb n room) 14 0 0 ∷ []))

unfoldable pub rewrite : List ℕ → ℕ → Rewritten
rewrite t room =
    let a = rewrite_answer t room in
    record { answer = a; len = pick (eqb a.number 0) (form_length (meaning t)) 0 }

-- where done the form stands in the first bytes; where refused nothing changes
unfoldable pub rewrite_bytes : List ℕ → List ℕ → List ℕ
rewrite_bytes t out = pick (eqb (rewrite_answer t (length out)).number 0) (splice out 0 (form (meaning t))) out
