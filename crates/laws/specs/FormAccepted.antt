-- The one form of a meaning that obeys the rules is accepted. Assumes nothing.
use Rattle.std.specs.Prelude.{◌≡◌, Bool, true, false, not, List, [], ◌∷◌, ◌++◌, ℕ, ◌+◌, ◌%◌, ◌≤◌, get_or, take, T, leb, eqb}
use Rattle.std.proofs.Common.{ap, ◌∙◌, arith, take_all}
use Rattle.std.proofs.Math.ListN.{length}
use Rattle.std.proofs.Math.Dec.{lit≤}
use Rattle.std.proofs.Math.Facts.{yes_and, yes_leb, yes_eqb}
use Rattle.table.specs.declared.Region.{Region}
use Rattle.table.specs.Bytes.{checksum, num, total}
use Rattle.table.specs.Layout.{region}
use Rattle.table.specs.FixedLayouts.{host, list_kinds}
use Rattle.table.specs.Objects.{count_in, span_body}
use Rattle.table.specs.Rules.{cons_if, done, inside, long_enough, versioned}
use Rattle.table.specs.Meaning.{Meaning, behind, form, form_length, head_back, head_front, heap_at, heap_len, laid_out, limit, minor_of}
use Rattle.table.specs.Numbers.{check, regions, tests}
use Rattle.laws.specs.Lawful.{Lawful}
use Rattle.laws.specs.TestLaws.{AllPass}
use Rattle.laws.specs.BodyLaws.{Chain, body-chain, body-long, chain-apart, chain-inside}
use Rattle.laws.specs.Means.{taken}
use Rattle.laws.specs.FormLaws.{fixed_back, form-head, form-stands, h₂, laid, length-form, ok-lists}

-- ---- the checksum

pub total-append : (xs ys : List ℕ) → total (xs ++ ys) ≡ total xs + total ys
total-append [] ys = omega arith
total-append (x ∷ xs) ys = ap (λ (n : ℕ). x + n) (total-append xs ys) ∙ omega arith

total-laid_out : (m : Meaning) (n c k r : ℕ) → total (laid_out m n c k r) ≡ total (laid_out m n 0 k r) + c
unfolding laid_out
total-laid_out m n c k r =
    let a : List ℕ = head_front n in
    let b : List ℕ = head_back m k r ++ behind m in
    omega (arith, total-append a (c ∷ b), total-append a (0 ∷ b))

summed : (m : Meaning) → total (form m) % 256 ≡ 0
unfolding form
summed m = let t : List ℕ = laid_out m (form_length m) 0 (heap_len m) (minor_of m) in omega (arith, total-laid_out m (form_length m) (checksum t) (heap_len m) (minor_of m))

module _ (m : Meaning) (w : Lawful m) (short : form_length m ≤ limit) where
  size_back : num (form m) 4 4 ≡ form_length m
  size_back = (form-head m w.shapes short).size

  from_back : num (form m) 36 4 ≡ heap_at m
  from_back = (form-head m w.shapes short).heap_from

  long-back : num (form m) 40 4 ≡ heap_len m
  long-back = (form-head m w.shapes short).heap_size

  sum_back : total (take (form_length m) (form m)) % 256 ≡ 0
  sum_back = ap (λ (x : List ℕ). total x % 256) (take_all (form_length m) (form m) (omega (arith, length-form m w.shapes))) ∙ summed m

  -- ---- the frame

  chain-maybe : (lo hi : ℕ) (c : Bool) (x : Region) → lo ≤ x.at → x.at + x.len ≤ hi → lo ≤ hi → Chain lo hi (cons_if c x [])
  chain-maybe lo hi true x a b d = (a, b)
  chain-maybe lo hi false x a b d = d

  chain_back : Chain 128 (form_length m) (regions (form m))
  unfolding regions heap_at form_length
  chain_back =
      rw ((fixed_back m w.shapes short).owner_at, (fixed_back m w.shapes short).owner_len) (
        lit≤ tt,
        body-chain (count_in m.lists) (form m) 80 160 (h₂ m w.shapes) (form_length m) m.lists _ ok-lists w.shapes.listed (laid m w.shapes short)
            (rw (from_back, long-back) (chain-maybe (160 + span_body m.lists) (form_length m) (not (eqb (heap_len m) 0)) (region (heap_at m) (heap_len m)) (omega arith) (omega arith) (omega arith))),
      )

  lists-long : T (long_enough list_kinds (form m) 80) × T (versioned list_kinds (form m) 80)
  lists-long = body-long (count_in m.lists) (form m) 80 160 (h₂ m w.shapes) m.lists ok-lists w.shapes.listed (laid m w.shapes short)

  eq : (x y : ℕ) → x ≡ y → T (eqb x y)
  eq x y e = yes_eqb e

  form-passes : AllPass (tests (form m))
  unfolding tests form_length heap_at host
  form-passes =
      (let x = fixed_back m w.shapes short in
      let p = form-head m w.shapes short in
      let len = length-form m w.shapes in (
        yes_leb {a = 160} {b = length (form m)} (omega arith),
        (
          eq (num (form m) 0 4) 0x5446424E p.sig,
          (
            rw size_back (yes_and (leb 160 (form_length m)) _ (yes_leb {a = 160} {b = form_length m} (omega arith)) (yes_leb {a = form_length m} {b = length (form m)} (omega arith))),
            (
              rw size_back (yes_leb {a = form_length m} {b = limit} short),
              (
                rw size_back (eq (total (take (form_length m) (form m)) % 256) 0 sum_back),
                (
                  eq (get_or (form m) 8 0) 1 p.major,
                  (
                    rw (x.ident, x.major, x.csl, x.valid, size_back) (yes_and (leb 128 (form_length m)) _ (yes_leb {a = 128} {b = form_length m} (omega arith)) tt),
                    (
                      rw (x.csl, x.owner_len, size_back)
                          (yes_and (long_enough list_kinds (form m) 80) _ lists-long.0
                          (yes_and (inside 128 (form_length m) (regions (form m))) _ (chain-inside 128 128 (form_length m) (regions (form m)) (lit≤ tt) chain_back)
                          (chain-apart 128 (form_length m) (regions (form m)) chain_back))),
                      (
                        yes_and (eqb (get_or (form m) 78 0) 1) _ (eq (get_or (form m) 78 0) 1 x.owner_version) lists-long.1,
                        tt,
                      ),
                    ),
                  ),
                ),
              ),
            ),
          ),
        ),
      ))

  -- the form of a lawful meaning is accepted
  pub accepted : check (form m) ≡ done
  accepted = taken (form m) m w (form-stands m w.shapes short) form-passes
