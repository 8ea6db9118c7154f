-- A table in which a lawful meaning stands has that meaning, and its records pass. Assumes nothing.
use Rattle.std.specs.Prelude.{◌≡◌, ℕ, T, eqb}
use Rattle.std.proofs.Common.{ap, ◌∙◌}
use mathlib.Core.List.{List, []}
use Rattle.std.proofs.Math.Facts.{yes_eqb}
use Rattle.table.specs.declared.Answer.{Answer}
use Rattle.table.specs.Bytes.{num}
use Rattle.table.specs.Layout.{Entry, env, unused, used}
use Rattle.table.specs.FixedLayouts.{header, host}
use Rattle.table.specs.Objects.{count_in, is_used, used_in}
use Rattle.table.specs.Rules.{done, first, first_fail, refs_rule, used_rule}
use Rattle.table.specs.Meaning.{Meaning, meaning}
use Rattle.table.specs.Numbers.{check, driver_rule, heap_in, host_rule, records, tests}
use Rattle.laws.specs.Lawful.{FitEntry, Lawful, NamesEntry, Shaped}
use Rattle.laws.specs.ByteLaws.{pick_yes}
use Rattle.laws.specs.Standing.{EntryAt, Stands}
use Rattle.laws.specs.TestLaws.{AllPass, pass_all}
use Rattle.laws.specs.StandLaws.{pass-at, pass-body, pass-used, read_at, read-body, read-entry}

pub first_done : (x y : Answer) → x ≡ done → y ≡ done → first x y ≡ done
first_done x y p q = ap (λ (z : Answer). first z y) p ∙ q

module _ (t : List ℕ) (m : Meaning) (w : Shaped m) (s : Stands t m) where
  pub means : meaning t ≡ m
  unfolding meaning
  means =
      let count = count_in m.lists in
      let e₁ = read_at t (heap_in t) 0 (env count 0) [] m.driver w.signed s.driver_at in
      let e₂ = read-entry t (heap_in t) (num t 72 4) (env count 0) m.owner w.owned s.owner_at in
      let e₃ = read-body t (heap_in t) count 80 m.lists w.listed s.lists_at in
      λ i. record { oem = s.oem_at i; driver = e₁ i; owner = e₂ i; lists = e₃ i }

module _ (t : List ℕ) (m : Meaning) (w : Lawful m) (s : Stands t m) where
  owner-pass : (e : Entry host) → T (is_used e) → FitEntry (env (count_in m.lists) 0) e → NamesEntry (used_in m.lists) e → EntryAt t (heap_in t) (num t 72 4) e
      → host_rule t (used_in m.lists) (count_in m.lists) e ≡ done
  unfolding host_rule
  owner-pass unused u f n g = absurd u
  owner-pass (used img ss) u f n g =
      pick_yes (eqb (used_rule host (used_in m.lists) (heap_in t) (env (count_in m.lists) 0) t (num t 72 4) img ss) 0) done _
      (yes_eqb (pass-used (used_in m.lists) (count_in m.lists) t (heap_in t) host (num t 72 4) (env (count_in m.lists) 0) img ss f n g.1))

  pub passes : records t m ≡ done
  unfolding records driver_rule
  passes =
      first_done _ _ (pick_yes (eqb (refs_rule (heap_in t) (env (count_in m.lists) 0) t 0 [] header.refs) 0) done _
      (yes_eqb (pass-at t (heap_in t) 0 (env (count_in m.lists) 0) [] m.driver w.shapes.signed s.driver_at)))
      (first_done _ _ (owner-pass m.owner w.present w.shapes.owned w.owned_names s.owner_at)
      (pass-body (used_in m.lists) (count_in m.lists) t (heap_in t) 80 m.lists w.shapes.listed w.named
      s.lists_at))

  -- what stands, in a table whose tests pass, is accepted
  pub taken : AllPass (tests t) → check t ≡ done
  unfolding check
  taken p = first_done (first_fail (tests t)) (records t (meaning t)) (pass_all (tests t) p) (rw (means t m w.shapes s) passes)
