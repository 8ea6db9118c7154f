-- A told record and its objects into the buffer. Assumes nothing.
use mathlib.Core.Path.{◌≡◌, refl, sym, ap, ap₂, ◌∙◌}
use mathlib.Core.Bool.{Bool, true}
use mathlib.Core.List.{List, [], ◌∷◌, ◌++◌}
use Prim.Native.Nat.{ℕ, ◌+◌, ◌-◌, ◌≤◌}
use native.Mathlib.Nat.{add-zero}
use native.Mathlib.Omega.{arith}
use lib.ListN.{length, take, drop, length-append, length-take, length-drop}
use borrow.Author.Tests.{eq-eqb, ne_eqb}
use Rattle.table.specs.declared.Answer.{Answer}
use Rattle.table.specs.declared.State.{State}
use Rattle.table.specs.declared.Step.{Step}
use Rattle.table.specs.Bytes.{splice}
use Rattle.table.specs.Layout.{Layout, Slots, text}
use Rattle.table.specs.Objects.{size_of, heap_of, patched}
use Rattle.table.specs.Rules.{first_fail}
use Rattle.table.specs.Builder.{ended, room_tests, place_of, placed, next, records_end, waits}
use Rattle.laws.specs.Fields.{image_in}
use Rattle.bytes_writer.proofs.StoreLaws.{concat, lent, splice-none}
use Rattle.builder_state.proofs.Laws.{used-bounds}
use Rattle.bytes_room.proofs.RoomLaws.{room-passed}
use Rattle.builder_record.specs.Steps.{laid}

pub step_is : (r : Step) (a : Answer) (s : State) → r.answer ≡ a → r.state ≡ s → r ≡ record { answer = a; state = s }
step_is r a s p q = rw (sym p, sym q) refl

pub two-long : (p q : List ℕ) → length (concat (p ∷ q ∷ [])) ≡ length p + length q
two-long p q = simp (length-append, add-zero)

pub six-long : (p q r s t v : List ℕ) → length (concat (p ∷ q ∷ r ∷ s ∷ t ∷ v ∷ [])) ≡ length p + (length q + (length r + (length s + (length t + length v))))
six-long p q r s t v = simp (length-append, add-zero)

-- ---- a text

pub text-none : (o : List ℕ) → length o ≡ 0 → (t : List ℕ) (a : ℕ) → t ≡ splice t a (ended text o)
text-none [] e t a = splice-none t a
text-none (x ∷ o) e t a = absurd (omega (arith, e))

pub text-some : (o : List ℕ) → (length o ≡ 0 → ⊥) → ended text o ≡ o ++ (0 ∷ [])
text-some [] n = absurd (n refl)
text-some (x ∷ o) n = refl

-- with its terminator it is one byte longer
pub text-long : (o : List ℕ) → (length o ≡ 0 → ⊥) → length (ended text o) ≡ length o + 1
text-long o n = ap length (text-some o n) ∙ length-append o (0 ∷ [])

-- ---- a part that is lent

pub part-size : (t : List ℕ) (a k : ℕ) → a + k ≤ length t → length (take (a + k - a) (drop a t)) ≡ k
part-size t a k h = simp (length-take, length-drop) (omega (arith, h))

-- y is what came back
pub part-stored : (t : List ℕ) (a k : ℕ) (y x : List ℕ) → a + k ≤ length t → length y ≡ length (take (a + k - a) (drop a t)) → y ≡ x
    → take a t ++ (y ++ drop (a + k - a) (drop a t)) ≡ splice t a x
part-stored t a k y x h l e = lent t a (a + k - a) y (l ∙ part-size t a k h ∙ omega arith) ∙ ap (splice t a) e

-- ---- room for n more bytes

-- what a passed test of the room says of a state that waits
pub roomy : (s : State) (k n m : ℕ) (a : Answer) → waits s k ≡ true → a ≡ first_fail (room_tests (s.used + n) m) → a.number ≡ 0
    → (records_end s ≤ s.used) × (s.used + n ≤ 65536) × (s.used + n ≤ m)
roomy s k n m a w e z =
    let q = room-passed (s.used + n) m (sym (ap (λ (x : Answer). x.number) e) ∙ z) in ((used-bounds s k w).0, q.0, q.1)

module _ (l : Layout) (s : State) (buf b : List ℕ) (ss : Slots l.refs) (n : ℕ) (a : Answer) (r : Step) (en : n ≡ size_of ss) (ea : a ≡ first_fail (room_tests (s.used + n) (length buf)))
    (er : r.answer ≡ a) where
  room-is : first_fail (room_tests (s.used + size_of ss) (length buf)) ≡ a
  room-is = ap (λ (m : ℕ). first_fail (room_tests (s.used + m) (length buf))) (sym en) ∙ sym ea

  pub laid-refused : (a.number ≡ 0 → ⊥) → r.state ≡ s → (r ≡ (laid l s buf b ss).step) × (buf ≡ (laid l s buf b ss).buffer)
  unfolding laid
  laid-refused z es = (step_is r a s er es ∙ rw (room-is, ne_eqb a.number 0 z) refl, rw (room-is, ne_eqb a.number 0 z) refl)

  -- y is the buffer with the record, z with its objects behind the bytes used
  pub laid_done : a.number ≡ 0
      → (newer : Bool)
      → newer ≡ l.newer ss
      → r.state ≡ next s n newer
      → (at : ℕ) (x y z h : List ℕ)
      → at ≡ place_of s l
      → x ≡ patched s.used (image_in l b 0) ss
      → y ≡ splice buf at x
      → h ≡ heap_of s.used ss
      → z ≡ splice y s.used h
      → (r ≡ (laid l s buf b ss).step) × (z ≡ (laid l s buf b ss).buffer)
  unfolding laid placed
  laid_done z newer ev es at x y v h p q f g e = (
    step_is r a (next s n newer) er es ∙ ap₂ (λ (m : ℕ) (b : Bool). record { answer = a; state = next s m b }) en ev ∙ rw (room-is, eq-eqb a.number 0 z) refl,
    e ∙ ap₂ (λ (t o : List ℕ). splice t s.used o) (f ∙ ap₂ (splice buf) p q) g ∙ rw (room-is, eq-eqb a.number 0 z) refl,
  )
