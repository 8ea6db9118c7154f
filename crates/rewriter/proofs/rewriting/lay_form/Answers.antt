use Rattle.rewriter.proofs.FormLaws.{sizes-are, driver-long, front-late, form-laid}
use Rattle.rewriter_objects.specs.Laid.{laid}
use Rattle.reads_seats.specs.Told.{told_entry}
use Rattle.laws.specs.ListWalk.{base-small}
use Rattle.laws.specs.Fields.{Bytes}
use Rattle.table.specs.Meaning.{meaning, minor_of, laid_out}
use Rattle.table.specs.Objects.{size_entry, rec_entry, heap_entry}
use Rattle.table.specs.FixedLayouts.{layout_of, host}
use Rattle.table.specs.Layout.{Entry}
use Rattle.table.specs.Bytes.{splice}
use native.Mathlib.Omega.{arith}
use Prim.Native.Nat.{ℕ, ◌+◌, ◌-◌}
use mathlib.Core.Path.{◌≡◌, refl, ap, ◌∙◌}
use Rattle.rewriter.proofs.rewriting.lay_form.Goals as goal

pub lay_entry-after_driver-requires : goal.lay_entry-after_driver-requires
lay_entry-after_driver-requires c =
    let t = c.args.t.now in
    let ok = c.requires.0 in
    let b : Bytes t = λ i. omega (arith, c.type_inv.t i) in
    let z = sizes-are t b ok c.args.size c.args.heap c.requires.1 c.requires.2 in
    record { accepted = ok; kind_bound = (omega (arith, z.0, base-small 0), omega (arith, z.1, c.requires.3)) }

pub overflow_sub-size : goal.overflow_sub-size
overflow_sub-size c =
    let t = c.args.t.now in
    let ok = c.requires.0 in
    let b : Bytes t = λ i. omega (arith, c.type_inv.t i) in
    let z = sizes-are t b ok c.args.size c.args.heap c.requires.1 c.requires.2 in
    omega (arith, z.1)

pub lay_front-requires : goal.lay_front-requires
lay_front-requires c =
    let t = c.args.t.now in
    let ok = c.requires.0 in
    let b : Bytes t = λ i. omega (arith, c.type_inv.t i) in
    let z = sizes-are t b ok c.args.size c.args.heap c.requires.1 c.requires.2 in
    (ok, omega (arith, z.1, c.requires.2, c.requires.3, c.lay_entry-after_driver.auto.out))

pub lay_entry-after_host-requires : goal.lay_entry-after_host-requires
unfolding layout_of host
lay_entry-after_host-requires c =
    let t = c.args.t.now in
    let ok = c.requires.0 in
    let b : Bytes t = λ i. omega (arith, c.type_inv.t i) in
    let z = sizes-are t b ok c.args.size c.args.heap c.requires.1 c.requires.2 in
    let e = c.lay_entry-after_driver in record {
      accepted = ok;
      kind_bound = (
        omega (arith, z.0, e.ensures.0),
        omega (arith, z.1, e.ensures.0, c.requires.3, e.auto.out, c.lay_front.auto.out),
      );
    }

pub lay_lists-requires : goal.lay_lists-requires
lay_lists-requires c =
    let t = c.args.t.now in
    let ok = c.requires.0 in
    let b : Bytes t = λ i. omega (arith, c.type_inv.t i) in
    let z = sizes-are t b ok c.args.size c.args.heap c.requires.1 c.requires.2 in
    let e = c.lay_entry-after_driver in
    let p = c.lay_entry-after_host in record {
      accepted = ok;
      t_bound = (
        omega (arith, z.0, e.ensures.0, p.ensures.0),
        omega (
          arith,
          z.1,
          e.ensures.0,
          p.ensures.0,
          c.requires.3,
          e.auto.out,
          c.lay_front.auto.out,
          p.auto.out,
        ),
      );
    }

pub returns : goal.returns
returns c =
    let t = c.args.t.now in
    let ok = c.requires.0 in
    let b : Bytes t = λ i. omega (arith, c.type_inv.t i) in
    let z = sizes-are t b ok c.args.size c.args.heap c.requires.1 c.requires.2 in
    let e = c.lay_entry-after_driver in
    let f = c.lay_front in
    let p = c.lay_entry-after_host in
    let x = c.args.out.now in
    let n : ℕ = c.args.size in
    let h : ℕ = c.args.heap in
    let d : ℕ = e.result - h in
    let ed : d ≡ size_entry (told_entry (layout_of 0) t 0 0) = omega (arith, e.ensures.0) in
    let hb : e.result ≡ h + d = omega (arith, e.ensures.0) in
    let own : Entry (layout_of 2) = told_entry (layout_of 2) t 2 0 in (
      ed ∙ driver-long t b ok,
      form-laid t b ok n (n - h) c.requires.1 z.2 x _ f.new.out p.new.out c.lay_lists.new.out h d
          p.result c.requires.3 c.requires.2 ed refl (front-late t b ok n (n - h) c.requires.1 z.2 x e.new.out
          f.new.out h d (omega (arith, z.0)) (omega (arith, z.1, c.requires.3)) e.ensures.1 f.ensures)
          (p.ensures.1 ∙ ap (λ (v : ℕ). laid f.new.out 128 (rec_entry v own) v (heap_entry v own)) hb)
          (p.ensures.0 ∙ ap (λ (v : ℕ). v + size_entry own) hb) c.lay_lists.ensures
          ∙ ap (λ (k : ℕ). splice x 0 (laid_out (meaning t) n 0 k (minor_of (meaning t)))) z.2,
    )
