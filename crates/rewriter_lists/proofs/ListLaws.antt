-- The four lists together: what was laid is the records of all, and in the heap what they name. Assumes nothing.
use mathlib.Core.Path.{◌≡◌, refl, sym, ap, ap₂, ◌∙◌}
use mathlib.Core.List.{List, [], ◌∷◌}
use Prim.Native.Nat.{ℕ, ◌+◌, ◌*◌, ◌≤◌}
use native.Mathlib.Omega.{arith}
use lib.ListN.{length, length-append}
use Rattle.table.specs.Layout.{Entry, base_of}
use Rattle.table.specs.FixedLayouts.{layout_of}
use Rattle.table.specs.Objects.{size_list, size_body, span_body, recs_list, heap_list, recs_body, heap_body}
use Rattle.table.specs.Meaning.{Meaning, meaning}
use Rattle.laws.specs.Fields.{Bytes}
use Rattle.reader.specs.Accepted.{Accepted}
use Rattle.reads_seats.specs.Told.{told, count_of}
use Rattle.reads_seats.proofs.MeaningLaws.{told-all}
use Rattle.rewriter_sizes.specs.Parts.{list_of}
use Rattle.rewriter_sizes.proofs.PartLaws.{span-parts}
use Rattle.rewriter_objects.specs.Laid.{laid}
use Rattle.rewriter_lists.proofs.RunLaws.{Piece, piece, recs_of, heaps_of, run-laid, link, list-recs, list-heaps}

module _ (t : List ℕ) (b : Bytes t) (ok : Accepted t) (u : ℕ) where
  abbrev es3 : List (Entry (layout_of 3))
  es3 = list_of t 3

  abbrev es4 : List (Entry (layout_of 4))
  es4 = list_of t 4

  abbrev es5 : List (Entry (layout_of 5))
  es5 = list_of t 5

  abbrev es6 : List (Entry (layout_of 6))
  es6 = list_of t 6

  abbrev u4 : ℕ
  u4 = u + size_list es3

  abbrev u5 : ℕ
  u5 = u4 + size_list es4

  abbrev u6 : ℕ
  u6 = u5 + size_list es5

  abbrev lists : List Piece
  lists =
      piece (recs_list u es3) (heap_list u es3)
      ∷ piece (recs_list u4 es4) (heap_list u4 es4)
      ∷ piece (recs_list u5 es5) (heap_list u5 es5)
      ∷ piece (recs_list u6 es6) (heap_list u6 es6)
      ∷ []

  abbrev span_of : ℕ → ℕ
  span_of k = count_of t k * base_of (layout_of k)

  pub size-body : size_body (meaning t).lists ≡ size_list es3 + (size_list es4 + (size_list es5 + (size_list es6 + 0)))
  unfolding size_body told list_of count_of layout_of
  size-body = sym (ap (λ (m : Meaning). size_body m.lists) (told-all t b ok))

  recs-body : recs_of lists ≡ recs_body u (meaning t).lists
  unfolding recs_body told list_of count_of layout_of
  recs-body = ap (λ (m : Meaning). recs_body u m.lists) (told-all t b ok)

  heap-body : heaps_of lists ≡ heap_body u (meaning t).lists
  unfolding heap_body told list_of count_of layout_of
  heap-body = ap (λ (m : Meaning). heap_body u m.lists) (told-all t b ok)

  recs-length : length (recs_of lists) ≡ span_body (meaning t).lists
  recs-length = simp length-append (omega (arith, list-recs t ok 3 u, list-recs t ok 4 u4, list-recs t ok 5 u5, list-recs t ok 6 u6, span-parts t b ok))

  heaps-length : length (heaps_of lists) ≡ size_body (meaning t).lists
  heaps-length =
      simp length-append
      (omega (arith, list-heaps t ok 3 u, list-heaps t ok 4 u4, list-heaps t ok 5 u5, list-heaps t ok 6 u6, size-body))

  pub body-recs-long : length (recs_body u (meaning t).lists) ≡ span_body (meaning t).lists
  body-recs-long = ap length (sym recs-body) ∙ recs-length

  pub body-heap-long : length (heap_body u (meaning t).lists) ≡ size_body (meaning t).lists
  body-heap-long = ap length (sym heap-body) ∙ heaps-length

  -- one list behind the other
  pub lists-laid : (x y3 y4 y5 y6 : List ℕ) (d d4 d5 d6 h4 h5 h6 : ℕ) → d + span_body (meaning t).lists ≤ u → u + size_body (meaning t).lists ≤ length x
      → d4 ≡ d + span_of 3 → d5 ≡ d4 + span_of 4 → d6 ≡ d5 + span_of 5
      → y3 ≡ laid x d (recs_list u es3) u (heap_list u es3) → h4 ≡ u4
      → y4 ≡ laid y3 d4 (recs_list h4 es4) h4 (heap_list h4 es4) → h5 ≡ h4 + size_list es4
      → y5 ≡ laid y4 d5 (recs_list h5 es5) h5 (heap_list h5 es5) → h6 ≡ h5 + size_list es5
      → y6 ≡ laid y5 d6 (recs_list h6 es6) h6 (heap_list h6 es6)
      → y6 ≡ laid x d (recs_body u (meaning t).lists) u (heap_body u (meaning t).lists)
  lists-laid x y3 y4 y5 y6 d d4 d5 d6 h4 h5 h6 below room e4 e5 e6 s3 q4 s4 q5 s5 q6 s6 =
      let g3 = list-heaps t ok 3 u in
      let g4 = list-heaps t ok 4 u4 in
      let g5 = list-heaps t ok 5 u5 in
      let long3 = list-recs t ok 3 u in
      let long4 = list-recs t ok 4 u4 in
      let long5 = list-recs t ok 5 u5 in
      run-laid lists x d u y6 (omega (arith, recs-length)) (omega (arith, heaps-length)) (
        y3,
        s3,
        (
          y4,
          link y4 y3 d4 (d + length (recs_list u es3)) h4 u4 (u + length (heap_list u es3)) (λ h. recs_list h es4)
              (λ h. heap_list h es4) (omega (arith, e4, long3)) q4 (omega (arith, q4, g3)) s4,
          (
            y5,
            link y5 y4 d5 (d + length (recs_list u es3) + length (recs_list u4 es4)) h5 u5
                (u + length (heap_list u es3) + length (heap_list u4 es4)) (λ h. recs_list h es5)
                (λ h. heap_list h es5) (omega (arith, e4, e5, long3, long4)) (omega (arith, q4, q5))
                (omega (arith, q4, q5, g3, g4)) s5,
            (
              y6,
              link y6 y5 d6
                  (d + length (recs_list u es3) + length (recs_list u4 es4) + length (recs_list u5 es5)) h6 u6
                  (u + length (heap_list u es3) + length (heap_list u4 es4) + length (heap_list u5 es5))
                  (λ h. recs_list h es6) (λ h. heap_list h es6)
                  (omega (arith, e4, e5, e6, long3, long4, long5)) (omega (arith, q4, q5, q6))
                  (omega (arith, q4, q5, q6, g3, g4, g5)) s6,
              refl,
            ),
          ),
        ),
      )
      ∙ ap₂ (λ (r g : List ℕ). laid x d r u g) recs-body heap-body
