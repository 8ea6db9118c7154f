-- What a rewrite and a closing give fits the numbers that are handed to C. Assumes nothing.
use mathlib.Core.Path.{◌≡◌, refl, sym, subst}
use mathlib.Core.Bool.{Bool, true, false, not}
use mathlib.Core.List.{List, [], ◌∷◌}
use Prim.Native.Nat.{ℕ, ◌*◌, ◌≤◌, ◌<◌}
use lib.Dec.{eqb, leb, lit<, lit≤}
use borrow.Author.Tests.{eqb-true, eqb-false, leb-true}
use Rattle.table.specs.declared.Answer.{Answer}
use Rattle.table.specs.Bytes.{pick}
use Rattle.table.specs.Rules.{answer, test, first_fail}
use Rattle.table.specs.Meaning.{limit, meaning, form_length}
use Rattle.table.specs.Rewriting.{rewrite_answer, rewrite}
use Rattle.table.specs.Numbers.{check, heap_in}
use Rattle.table.specs.Closing.{close_answer, overlapped}
use Rattle.laws.specs.Fields.{Bytes}
use Rattle.laws.specs.Positions.{check-placed}
use Rattle.rewriter.proofs.AnswerLaws.{read-passed, read-refused}

abbrev RewriteFits : Answer → ℕ → Type 0
RewriteFits a n = (a.position < 256) × (pick (eqb a.number 0) n 0 ≤ limit)

room_fits : (n room : ℕ) → RewriteFits (first_fail (test (leb n limit) 17 0 0 ∷ test (leb n room) 14 0 0 ∷ [])) n
unfolding limit
room_fits n room = go (leb n limit) (leb n room) refl where
  go : (c d : Bool) → leb n limit ≡ c → RewriteFits (first_fail (test c 17 0 0 ∷ test d 14 0 0 ∷ [])) n
  go true true e = (lit< tt, leb-true n limit e)
  go true false e = (lit< tt, lit≤ tt)
  go false d e = (lit< tt, lit≤ tt)

pub rewrite-fits : (t : List ℕ) → Bytes t → (room : ℕ) → ((rewrite t room).answer.position < 256) × ((rewrite t room).len ≤ limit)
unfolding rewrite limit
rewrite-fits t b room = go (eqb (check t).number 0) refl where
  n : ℕ
  n = form_length (meaning t)

  go : (c : Bool) → eqb (check t).number 0 ≡ c → RewriteFits (rewrite_answer t room) n
  go true e = subst (λ (a : Answer). RewriteFits a n) (sym (read-passed t room (check t) refl (eqb-true (check t).number 0 e))) (room_fits n room)
  go false e =
      let z = eqb-false (check t).number 0 e in
      subst (λ (a : Answer). RewriteFits a n) (sym (read-refused t room (check t) refl z)) (check-placed t b, rw e (lit≤ tt))

-- the two refusals of a closing that are not the reader's name no record
pub close-placed : (t : List ℕ) → Bytes t → (room : ℕ) → (close_answer t room).position < 256
unfolding close_answer
close-placed t b room = go (eqb (check t).number 0) (leb (heap_in t).len (8 * room)) (not (overlapped t)) where
  go : (c d e : Bool) → (pick c (first_fail (test d 14 0 0 ∷ test e 19 0 0 ∷ [])) (check t)).position < 256
  go true true true = lit< tt
  go true true false = lit< tt
  go true false e = lit< tt
  go false d e = check-placed t b
