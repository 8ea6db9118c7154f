-- Sums of bytes: of a part, and of an accepted table. Assumes nothing.
use Rattle.std.proofs.Common.{◌≡◌, ℕ, ◌+◌, ◌%◌, ◌≤◌, List, length, take, drop, sym, ap, ◌∙◌, arith, eqb→eq, take-append-drop, length-take-le, get_or-take, drop-drop, ext_get_or}
use Rattle.table.specs.Bytes.{part, num, total}
use Rattle.table.specs.Numbers.{tests}
use Rattle.laws.specs.TestLaws.{all_pass}
use Rattle.laws.specs.FormAccepted.{total-append}
use Rattle.layout_images.proofs.Laws.{part-long, part-byte}
use Rattle.reader.specs.Accepted.{Accepted}
use Rattle.reader.proofs.AcceptedLaws.{tests-pass}

-- before a part, the part, behind it
pub total-parts : (t : List ℕ) (a n : ℕ) → total t ≡ total (take a t) + (total (part t a n) + total (drop (a + n) t))
total-parts t a n =
    ap total (sym (take-append-drop a t))
    ∙ total-append (take a t) (drop a t)
    ∙ ap (λ (i : ℕ). total (take a t) + i)
    (ap total (sym (take-append-drop n (drop a t))) ∙ total-append (take n (drop a t)) (drop n (drop a t)) ∙ ap (λ (x : List ℕ). total (part t a n) + total x) (drop-drop n a t))

-- a part of the first m bytes
pub part-front : (t : List ℕ) (m a n : ℕ) → a + n ≤ m → m ≤ length t → part (take m t) a n ≡ part t a n
part-front t m a n h k =
    let l : length (take m t) ≡ m = length-take-le m t k in
    let p = part-long (take m t) a n (omega (arith, l)) in
    let q = part-long t a n (omega arith) in
    ext_get_or 0 (part (take m t) a n) (part t a n) (p ∙ sym q)
    (λ j b. part-byte (take m t) a n j (omega (arith, p, b)) ∙ get_or-take m t (a + j) 0 (omega (arith, p, b)) ∙ sym (part-byte t a n j (omega (arith, p, b))))

-- the bytes of an accepted table add up to 0
pub accepted-sum : (t : List ℕ) → Accepted t → total (take (num t 4 4) t) % 256 ≡ 0
unfolding tests
accepted-sum t ok =
    let k = all_pass (tests t) tt (tests-pass t ok) in
    eqb→eq (total (take (num t 4 4) t) % 256) 0 k.1.1.1.1.0
