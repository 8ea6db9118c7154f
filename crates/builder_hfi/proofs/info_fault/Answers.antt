use mathlib.Core.Path.{◌≡◌, refl, ◌∙◌}
use Prim.Native.Nat.{ℕ, ◌/◌, ◌%◌}
use native.Mathlib.Omega.{arith}
use lib.ListN.{get_or}
use borrow.Author.Tests.{eq-eqb, ne_eqb}
use Rattle.builder_hfi.proofs.Laws.{info_tests, info-fault-is}
use Rattle.builder_hfi.proofs.info_fault.Goals as goal

pub returns-then-info-eq1 : goal.returns-then-info-eq1
returns-then-info-eq1 c =
    let x = c.args.info.now in
    let t : ◌≡◌ {A = ℕ} 0 (info_tests (get_or x 3 0) (get_or x 6 0) (get_or x 19 0)) = rw (eq-eqb (get_or x 3 0) 1 c.if-info-eq1.true) refl in
    t ∙ info-fault-is x (λ i. omega (arith, c.type_inv.info i))

pub returns-then-info-ne-NEWER : goal.returns-then-info-ne-NEWER
returns-then-info-ne-NEWER c =
    let x = c.args.info.now in
    let t : ◌≡◌ {A = ℕ} 12 (info_tests (get_or x 3 0) (get_or x 6 0) (get_or x 19 0)) = rw (ne_eqb (get_or x 3 0) 1 c.if-info-eq1.false, ne_eqb (get_or x 3 0) 2 c.if-info-ne-NEWER.true) refl in
    t ∙ info-fault-is x (λ i. omega (arith, c.type_inv.info i))

pub returns-then-info-eq0 : goal.returns-then-info-eq0
returns-then-info-eq0 c =
    let x = c.args.info.now in
    let t : ◌≡◌ {A = ℕ} 0 (info_tests (get_or x 3 0) (get_or x 6 0) (get_or x 19 0)) = rw (
      ne_eqb (get_or x 3 0) 1 c.if-info-eq1.false,
      eq-eqb (get_or x 3 0) 2 c.if-info-ne-NEWER.false,
      eq-eqb (get_or x 6 0 / 8 % 2) 0 c.if-info-eq0.true,
    ) refl in
    t ∙ info-fault-is x (λ i. omega (arith, c.type_inv.info i))

pub returns-then-info-ne0 : goal.returns-then-info-ne0
returns-then-info-ne0 c =
    let x = c.args.info.now in
    let t : ◌≡◌ {A = ℕ} 12 (info_tests (get_or x 3 0) (get_or x 6 0) (get_or x 19 0)) = rw (
      ne_eqb (get_or x 3 0) 1 c.if-info-eq1.false,
      eq-eqb (get_or x 3 0) 2 c.if-info-ne-NEWER.false,
      ne_eqb (get_or x 6 0 / 8 % 2) 0 c.if-info-eq0.false,
      ne_eqb (get_or x 6 0 / 4 % 2) 0 c.if-info-ne0.true,
    ) refl in
    t ∙ info-fault-is x (λ i. omega (arith, c.type_inv.info i))

pub returns-then-info-ne0-2 : goal.returns-then-info-ne0-2
returns-then-info-ne0-2 c =
    let x = c.args.info.now in
    let t : ◌≡◌ {A = ℕ} 12 (info_tests (get_or x 3 0) (get_or x 6 0) (get_or x 19 0)) = rw (
      ne_eqb (get_or x 3 0) 1 c.if-info-eq1.false,
      eq-eqb (get_or x 3 0) 2 c.if-info-ne-NEWER.false,
      ne_eqb (get_or x 6 0 / 8 % 2) 0 c.if-info-eq0.false,
      eq-eqb (get_or x 6 0 / 4 % 2) 0 c.if-info-ne0.false,
      ne_eqb (get_or x 19 0) 0 c.if-info-ne0-2.true,
    ) refl in
    t ∙ info-fault-is x (λ i. omega (arith, c.type_inv.info i))

pub returns : goal.returns
returns c =
    let x = c.args.info.now in
    let t : ◌≡◌ {A = ℕ} 0 (info_tests (get_or x 3 0) (get_or x 6 0) (get_or x 19 0)) = rw (
      ne_eqb (get_or x 3 0) 1 c.if-info-eq1.false,
      eq-eqb (get_or x 3 0) 2 c.if-info-ne-NEWER.false,
      ne_eqb (get_or x 6 0 / 8 % 2) 0 c.if-info-eq0.false,
      eq-eqb (get_or x 6 0 / 4 % 2) 0 c.if-info-ne0.false,
      eq-eqb (get_or x 19 0) 0 c.if-info-ne0-2.false,
    ) refl in
    t ∙ info-fault-is x (λ i. omega (arith, c.type_inv.info i))
