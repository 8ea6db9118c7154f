-- The call: what is known where it is done, what it keeps, and that a second one does nothing more. Assumes nothing.
use Rattle.std.specs.Prelude.{◌≡◌, refl, Bool, true, false, not, ◌||◌, List, [], ◌∷◌, ℕ, zero, suc, ◌+◌, ◌-◌, ◌*◌, ◌≤◌, ◌<◌, get_or, length, T, eqb, leb}
use Rattle.std.proofs.Common.{sym, ap, ◌∙◌, arith, leb→le}
use Rattle.std.proofs.Math.Dec.{eqb-suc-zero}
use Rattle.std.proofs.Math.Facts.{yes_and, yes_leb}
use Rattle.table.specs.declared.Answer.{Answer}
use Rattle.table.specs.Bytes.{pick}
use Rattle.table.specs.Rules.{answer, done}
use Rattle.table.specs.Meaning.{meaning}
use Rattle.table.specs.Numbers.{check, heap_in}
use Rattle.table.specs.Closing.{Site, close_answer, close_bytes, close_map, close_moved, closed, goes, map_of, marks, moved, overlapped, sites}
use Rattle.laws.specs.Builds.{check-zero}
use Rattle.laws.specs.Refusals.{check-below, reader_numbers}
use Rattle.laws.specs.TestLaws.{Refuses, found, number-pick, one_of, refuses, unless}
use Rattle.closing_laws.specs.Members.{In}
use Rattle.closing_laws.specs.ClosedStands.{heap_len_lem, slid-small}
use Rattle.closing_laws.specs.Fencing.{fenced}
use Rattle.closing_laws.specs.ClosedAccepted.{closed-accepted, closed-means}
use Rattle.closing_laws.specs.Walks.{shared}
use Rattle.closing_laws.specs.Full.{closed-again}
use Rattle.closing_laws.specs.Again.{closed-apart, closed-twice}

-- what the three tests ask
pub record Closes (t : List ℕ) (room : ℕ) : Type 0 where
  pub accepted : check t ≡ done
  pub mapped : (heap_in t).len ≤ 8 * room
  pub free : T (not (overlapped t))

pub closes : (t : List ℕ) (room : ℕ) → (close_answer t room).number ≡ 0 → Closes t room
unfolding close_answer
closes t room e = go (check t).number refl (leb (heap_in t).len (8 * room)) (not (overlapped t)) refl refl e
  where
    go : (n : ℕ) → (check t).number ≡ n → (c d : Bool) → leb (heap_in t).len (8 * room) ≡ c → not (overlapped t) ≡ d
        → (pick (eqb n 0) (pick c (pick d done (answer 19 0 0)) (answer 14 0 0)) (check t)).number ≡ 0 → Closes t room
    go zero p true true q r e = record { accepted = check-zero t p; mapped = leb→le (heap_in t).len (8 * room) (rw q tt); free = rw r tt }
    go zero p true false q r e = absurd (omega arith)
    go zero p false d q r e = absurd (omega arith)
    go (suc n) p c d q r e = let k : (check t).number ≡ 0 = rw (eqb-suc-zero n) at e in absurd (omega arith)

pub of-closes : (t : List ℕ) (room : ℕ) → Closes t room → close_answer t room ≡ done
unfolding close_answer
of-closes t room x = rw x.accepted (go (leb (heap_in t).len (8 * room)) (not (overlapped t)) (yes_leb x.mapped) x.free)
  where
    go : (c d : Bool) → T c → T d → pick c (pick d done (answer 19 0 0)) (answer 14 0 0) ≡ done
    go true true h k = refl
    go true false h k = absurd k
    go false d h k = absurd h

-- where it is done, and where it is refused
pub bytes-done : (t : List ℕ) (room : ℕ) → (close_answer t room).number ≡ 0 → close_bytes t room ≡ closed t
unfolding close_bytes
bytes-done t room e = rw e refl

pub bytes-refused : (t : List ℕ) (room n : ℕ) → (close_answer t room).number ≡ suc n → close_bytes t room ≡ t
unfolding close_bytes
bytes-refused t room n e = rw (e, eqb-suc-zero n) refl

pub moved-done : (t : List ℕ) (room : ℕ) → (close_answer t room).number ≡ 0 → close_moved t room ≡ moved t
unfolding close_moved
moved-done t room e = rw e refl

pub moved-refused : (t : List ℕ) (room n : ℕ) → (close_answer t room).number ≡ suc n → close_moved t room ≡ 0
unfolding close_moved
moved-refused t room n e = rw (e, eqb-suc-zero n) refl

pub map-done : (t map : List ℕ) → (close_answer t (length map)).number ≡ 0 → close_map t map ≡ map_of (marks t) 0 (length map)
unfolding close_map
map-done t map e = rw e refl

pub map-refused : (t map : List ℕ) (n : ℕ) → (close_answer t (length map)).number ≡ suc n → close_map t map ≡ map
unfolding close_map
map-refused t map n e = rw (e, eqb-suc-zero n) refl

-- the reader's number, then 14, then 19
pub close-refuses : (t : List ℕ) (room : ℕ)
    → Refuses (close_answer t room).number
    (found reader_numbers (check t).number ∷ unless 14 (leb (heap_in t).len (8 * room)) ∷ unless 19 (not (overlapped t)) ∷ [])
unfolding close_answer
close-refuses t room =
    let n : ℕ = (check t).number in
    simp number-pick (refuses _ _ refl (yes_and (one_of n reader_numbers || eqb n 0) true (check-below t).either tt))

module _ (t : List ℕ) (b : (i : ℕ) → get_or t i 0 < 256) (room : ℕ) where
  module _ (e : (close_answer t room).number ≡ 0) where
    -- the table that it leaves is accepted, and means what it meant
    pub close-accepted : check (close_bytes t room) ≡ done
    close-accepted = let x = closes t room e in ap check (bytes-done t room e) ∙ closed-accepted t b x.accepted x.free

    pub close-means : meaning (close_bytes t room) ≡ meaning t
    close-means = let x = closes t room e in ap meaning (bytes-done t room e) ∙ closed-means t b x.accepted x.free

    -- what began inside an object begins there still
    pub close-shares : (x y : Site) → In x (sites t) → In y (sites t) → x.off ≤ y.off → y.off ≤ x.off + x.len
        → goes t y.off ≡ goes t x.off + (y.off - x.off)
    close-shares = let z = closes t room e in let g = fenced t b z.accepted z.free in shared t g.roomy g.sound

    still : close_answer (closed t) room ≡ done
    still =
        let x = closes t room e in
        let g = fenced t b x.accepted x.free in
        of-closes (closed t) room
        (record {
          accepted = closed-accepted t b x.accepted x.free;
          mapped = omega (arith, x.mapped, heap_len_lem t g, slid-small t g);
          free = closed-apart t b x.accepted x.free;
        })

    still-number : (close_answer (closed t) room).number ≡ 0
    still-number = ap (λ (a : Answer). a.number) still

  -- a second call is answered as the first was; it changes no byte and moves none
  pub again-answer : (close_answer (close_bytes t room) room).number ≡ (close_answer t room).number
  again-answer = go (close_answer t room).number refl
    where
      go : (n : ℕ) → (close_answer t room).number ≡ n → (close_answer (close_bytes t room) room).number ≡ (close_answer t room).number
      go zero e = ap (λ (x : List ℕ). (close_answer x room).number) (bytes-done t room e) ∙ still-number e ∙ sym e
      go (suc n) e = ap (λ (x : List ℕ). (close_answer x room).number) (bytes-refused t room n e)

  pub again-bytes : close_bytes (close_bytes t room) room ≡ close_bytes t room
  again-bytes = go (close_answer t room).number refl
    where
      go : (n : ℕ) → (close_answer t room).number ≡ n → close_bytes (close_bytes t room) room ≡ close_bytes t room
      go zero e =
          let x = closes t room e in
          ap (λ (y : List ℕ). close_bytes y room) (bytes-done t room e)
          ∙ bytes-done (closed t) room (still-number e)
          ∙ closed-twice t b x.accepted x.free
          ∙ sym (bytes-done t room e)
      go (suc n) e = ap (λ (y : List ℕ). close_bytes y room) (bytes-refused t room n e)

  pub again-moved : close_moved (close_bytes t room) room ≡ 0
  again-moved = go (close_answer t room).number refl
    where
      go : (n : ℕ) → (close_answer t room).number ≡ n → close_moved (close_bytes t room) room ≡ 0
      go zero e =
          let x = closes t room e in
          ap (λ (y : List ℕ). close_moved y room) (bytes-done t room e) ∙ moved-done (closed t) room (still-number e) ∙ closed-again t b x.accepted x.free
      go (suc n) e = ap (λ (y : List ℕ). close_moved y room) (bytes-refused t room n e) ∙ moved-refused t room n e
