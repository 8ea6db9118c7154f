-- Rules 9 (docs/RULES.md): K1 to K10, K12, K13 and further tables, shown of rules, meaning and the one form by one statement over one list; then looks at records,
-- reads, rewrites, closings and a short build. Assumes nothing.
use mathlib.Core.Bool.{true}
use mathlib.Core.List.{List, [], ◌∷◌, ◌++◌}
use Prim.Native.Nat.{ℕ}
use lib.ListN.{length, take, drop, replicate}
use lib.Dec.{T}
use Rattle.table.specs.Bytes.{every, checksum, splice, Edit, edit, apply}
use Rattle.table.specs.Builder.{empty}
use Rattle.table.proofs.Cases.{
  Case,
  refused,
  taken,
  sheet,
  fine,
  all_fine,
  Look,
  look,
  looked,
  all_looked,
  reaches_most,
  ReadCase,
  whole,
  field,
  object,
  denied,
  found,
  fine_read,
  all_fine_reads,
  RewriteCase,
  unwritten,
  written,
  fine_rewrite,
  all_fine_rewrites,
  CloseCase,
  unclosed,
  shut,
  fine_close,
  all_fine_closes,
  BuildCase,
  beginning,
  a_host,
  finishing,
  state,
  halted,
  stepped,
  fine_build,
  all_fine_builds,
}

-- with its checksum put right
abbrev summed : List ℕ → List ℕ
summed t = let z = splice t 9 (0 ∷ []) in splice z 9 (checksum z ∷ [])

abbrev pub k1 : List ℕ
k1 =
    sheet 162
    (edit 0 (0x4E ∷ 0x42 ∷ 0x46 ∷ 0x54 ∷ 0xA2 ∷ [])
    ∷ edit 8 (0x01 ∷ 0x96 ∷ [])
    ∷ edit 36 (0xA0 ∷ [])
    ∷ edit 40 (0x02 ∷ [])
    ∷ edit 64 (0x01 ∷ 0x01 ∷ [])
    ∷ edit 68 (0x40 ∷ [])
    ∷ edit 70 (0x01 ∷ [])
    ∷ edit 72 (0x80 ∷ [])
    ∷ edit 76 (0x20 ∷ [])
    ∷ edit 78 (0x01 ∷ [])
    ∷ edit 86 (0x01 ∷ [])
    ∷ edit 94 (0x01 ∷ [])
    ∷ edit 102 (0x01 ∷ [])
    ∷ edit 110 (0x01 ∷ [])
    ∷ edit 128 (0x02 ∷ 0x01 ∷ [])
    ∷ edit 146 (0xA0 ∷ [])
    ∷ edit 150 (0x02 ∷ [])
    ∷ edit 160 (0x6E ∷ [])
    ∷ [])

abbrev pub with : List Edit → List ℕ
with es = summed (apply k1 es)

-- K7: an empty text, the second heap byte alone, which is zero
abbrev k7 : List ℕ
k7 = with (edit 146 (0xA1 ∷ []) ∷ edit 150 (1 ∷ []) ∷ [])

-- the form of K7: one heap byte, which is zero
abbrev k7_form : List ℕ
k7_form = summed (take 161 (apply k1 (edit 4 (0xA1 ∷ []) ∷ edit 40 (1 ∷ []) ∷ edit 150 (1 ∷ []) ∷ edit 160 (0 ∷ []) ∷ [])))

-- one valid HFI with info, one valid SSNS, one unused security record; in the order of the one form. `flags` are the SSNS record's, `index` its security index
abbrev k12_like : ℕ → ℕ → List ℕ
k12_like flags index =
    summed
    (sheet 536
    (edit 0 (0x4E ∷ 0x42 ∷ 0x46 ∷ 0x54 ∷ 0x18 ∷ 0x02 ∷ 0 ∷ 0 ∷ 1 ∷ [])
    ∷ edit 36 (0x80 ∷ 0x01 ∷ 0 ∷ 0 ∷ 0x98 ∷ [])
    ∷ edit 64 (1 ∷ 1 ∷ 0 ∷ 0 ∷ 0x40 ∷ 0 ∷ 1 ∷ 0 ∷ 0x80 ∷ 0 ∷ 0 ∷ 0 ∷ 0x20 ∷ 0 ∷ 1 ∷ 0 ∷ [])
    ∷ edit 80 (0xA0 ∷ 0 ∷ 0 ∷ 0 ∷ 0x20 ∷ 0 ∷ 1 ∷ 1 ∷ [])
    ∷ edit 88 (0xC0 ∷ 0 ∷ 0 ∷ 0 ∷ 0x80 ∷ 0 ∷ 1 ∷ 1 ∷ [])
    ∷ edit 96 (0x40 ∷ 0x01 ∷ 0 ∷ 0 ∷ 0x40 ∷ 0 ∷ 1 ∷ 1 ∷ [])
    ∷ edit 110 (1 ∷ [])
    ∷ edit 128 (2 ∷ 1 ∷ [])
    ∷ edit 146 (0x80 ∷ 0x01 ∷ 0 ∷ 0 ∷ 2 ∷ [])
    ∷ edit 160 (3 ∷ 1 ∷ 1 ∷ 3 ∷ [])
    ∷ edit 176 (0x82 ∷ 0x01 ∷ 0 ∷ 0 ∷ 0x80 ∷ [])
    ∷ edit 192 (4 ∷ 1 ∷ 0 ∷ flags ∷ 0 ∷ 3 ∷ [])
    ∷ edit 202 (0x02 ∷ 0x02 ∷ 0 ∷ 0 ∷ 0x10 ∷ [])
    ∷ edit 208 (0x12 ∷ 0x02 ∷ 0 ∷ 0 ∷ 4 ∷ [])
    ∷ edit 237 (index ∷ 1 ∷ [])
    ∷ edit 246 (0x16 ∷ 0x02 ∷ 0 ∷ 0 ∷ 2 ∷ [])
    ∷ edit 384 (0x6E ∷ [])
    ∷ edit 386 (7 ∷ 1 ∷ 3 ∷ 1 ∷ 1 ∷ 0 ∷ 1 ∷ [])
    ∷ edit 524 (0xFF ∷ 0xFF ∷ 192 ∷ 168 ∷ 0 ∷ 1 ∷ [])
    ∷ edit 530 (0x34 ∷ 0x34 ∷ 0x32 ∷ 0x30 ∷ 0x73 ∷ [])
    ∷ []))

-- every kind of record, in the order of the one form: HFI 1 is unused, HFI 2 has info with an object; one SSNS record with a secondary list and extended info with
-- an object; one security record, whose DH groups (flag 10) are not set; one discovery record
abbrev full : List ℕ
full =
    summed
    (sheet 616
    (edit 0 (0x4E ∷ 0x42 ∷ 0x46 ∷ 0x54 ∷ 0x68 ∷ 0x02 ∷ 0 ∷ 0 ∷ 1 ∷ [])
    ∷ edit 10 (0x41 ∷ 0x42 ∷ [])
    ∷ edit 35 (7 ∷ [])
    ∷ edit 36 (0xC0 ∷ 0x01 ∷ 0 ∷ 0 ∷ 0xA8 ∷ 0 ∷ 0 ∷ 0 ∷ 0xC0 ∷ 0x01 ∷ 0 ∷ 0 ∷ 2 ∷ [])
    ∷ edit 64 (1 ∷ 1 ∷ 0 ∷ 0 ∷ 0x40 ∷ 0 ∷ 1 ∷ 0 ∷ 0x80 ∷ 0 ∷ 0 ∷ 0 ∷ 0x20 ∷ 0 ∷ 1 ∷ 0 ∷ [])
    ∷ edit 80 (0xA0 ∷ 0 ∷ 0 ∷ 0 ∷ 0x20 ∷ 0 ∷ 1 ∷ 2 ∷ [])
    ∷ edit 88 (0xE0 ∷ 0 ∷ 0 ∷ 0 ∷ 0x80 ∷ 0 ∷ 1 ∷ 1 ∷ [])
    ∷ edit 96 (0x60 ∷ 0x01 ∷ 0 ∷ 0 ∷ 0x40 ∷ 0 ∷ 1 ∷ 1 ∷ [])
    ∷ edit 104 (0xA0 ∷ 0x01 ∷ 0 ∷ 0 ∷ 0x20 ∷ 0 ∷ 1 ∷ 1 ∷ [])
    ∷ edit 128 (2 ∷ 0x17 ∷ 9 ∷ [])
    ∷ edit 146 (0xC2 ∷ 0x01 ∷ 0 ∷ 0 ∷ 2 ∷ [])
    ∷ edit 192 (3 ∷ 2 ∷ 1 ∷ 3 ∷ [])
    ∷ edit 208 (0xC4 ∷ 0x01 ∷ 0 ∷ 0 ∷ 0x80 ∷ [])
    ∷ edit 224 (4 ∷ 1 ∷ 0 ∷ 0x15 ∷ 1 ∷ 3 ∷ 7 ∷ 0 ∷ 1 ∷ [])
    ∷ edit 234 (0x46 ∷ 0x02 ∷ 0 ∷ 0 ∷ 3 ∷ 0 ∷ 0x49 ∷ 0x02 ∷ 0 ∷ 0 ∷ 1 ∷ [])
    ∷ edit 269 (1 ∷ 2 ∷ 0 ∷ 0x4A ∷ 0x02 ∷ 0 ∷ 0 ∷ 1 ∷ 0 ∷ 0x4B ∷ 0x02 ∷ 0 ∷ 0 ∷ 2 ∷ 0 ∷ 0x4D ∷ 0x02 ∷ 0 ∷ 0 ∷ 18 ∷ [])
    ∷ edit 352 (5 ∷ 1 ∷ 0x8B ∷ 0x0A ∷ 1 ∷ 0 ∷ 0x61 ∷ 0x02 ∷ 0 ∷ 0 ∷ 1 ∷ 0 ∷ 0x62 ∷ 0x02 ∷ 0 ∷ 0 ∷ 1 ∷ 0 ∷ 0x63 ∷ 0x02 ∷ 0 ∷ 0 ∷ 1 ∷ [])
    ∷ edit 382 (0x64 ∷ 0x02 ∷ 0 ∷ 0 ∷ 1 ∷ 0 ∷ 0x65 ∷ 0x02 ∷ 0 ∷ 0 ∷ 1 ∷ [])
    ∷ edit 416 (6 ∷ 1 ∷ 1 ∷ 2 ∷ 1 ∷ 0 ∷ 0x66 ∷ 0x02 ∷ 0 ∷ 0 ∷ 2 ∷ [])
    ∷ edit 448 (0x64 ∷ 0x73 ∷ 0x6E ∷ [])
    ∷ edit 452 (7 ∷ 1 ∷ 3 ∷ 1 ∷ 2 ∷ 0 ∷ 5 ∷ [])
    ∷ edit 540 (0xFE ∷ 0x80 ∷ [])
    ∷ edit 556 (0x44 ∷ 0x02 ∷ 0 ∷ 0 ∷ 2 ∷ [])
    ∷ edit 580 (0x68 ∷ 0 ∷ 10 ∷ 0 ∷ 1 ∷ 0x50 ∷ 2 ∷ 0x71 ∷ [])
    ∷ edit 589 (9 ∷ 1 ∷ 1 ∷ 0 ∷ 3 ∷ 0 ∷ 0 ∷ 0 ∷ 5 ∷ 0 ∷ 6 ∷ 0 ∷ 0x5F ∷ 0x02 ∷ 0 ∷ 0 ∷ 2 ∷ [])
    ∷ edit 607 (0x70 ∷ 0 ∷ 1 ∷ 2 ∷ 3 ∷ 4 ∷ 5 ∷ 6 ∷ [])
    ∷ []))

abbrev full_with : List Edit → List ℕ
full_with es = summed (apply full es)

-- the same said with noise in every reserved bit of flags, in the unused record, in reserved bytes and in the reference that is ignored
abbrev noise : List Edit
noise =
    edit 51 (0xFF ∷ [])
    ∷ edit 67 (0xFF ∷ [])
    ∷ edit 70 (0xFF ∷ 0xFF ∷ [])
    ∷ edit 129 (0xF7 ∷ [])
    ∷ edit 152 (0xFF ∷ [])
    ∷ edit 160 (0xFF ∷ 0xFF ∷ 0xFE ∷ 0xFF ∷ [])
    ∷ edit 176 (0xFF ∷ 0xFF ∷ [])
    ∷ edit 194 (0xFF ∷ [])
    ∷ edit 228 (0xFF ∷ [])
    ∷ edit 230 (0xFF ∷ 0xFF ∷ [])
    ∷ edit 355 (0xFA ∷ 0xFF ∷ 0xFF ∷ [])
    ∷ edit 376 (0xFF ∷ 0xFF ∷ 0xFF ∷ 0xFF ∷ 0 ∷ 0 ∷ [])
    ∷ edit 417 (0xFF ∷ [])
    ∷ edit 458 (0xFD ∷ [])
    ∷ edit 505 (0xFF ∷ [])
    ∷ edit 593 (0xFF ∷ 0xFF ∷ 0xFF ∷ 0xFF ∷ [])
    ∷ []

-- the same said with HFI records of 40 bytes, behind the heap
abbrev long_records : List ℕ
long_records =
    summed
    (apply (full ++ replicate 80 0)
    (edit 4 (0xB8 ∷ 0x02 ∷ [])
    ∷ edit 80 (0x68 ∷ 0x02 ∷ 0 ∷ 0 ∷ 40 ∷ [])
    ∷ edit 656 (3 ∷ 2 ∷ 1 ∷ 3 ∷ [])
    ∷ edit 672 (0xC4 ∷ 0x01 ∷ 0 ∷ 0 ∷ 0x80 ∷ [])
    ∷ edit 688 (0xFF ∷ [])
    ∷ []))

-- one HFI whose info has version 2 and IP origin 3, with a host name; its extended info has a client identifier, IAID and DUID; in the order of the one form
abbrev identity : List ℕ
identity =
    summed
    (sheet 347
    (edit 0 (0x4E ∷ 0x42 ∷ 0x46 ∷ 0x54 ∷ 0x5B ∷ 0x01 ∷ 0 ∷ 0 ∷ 1 ∷ [])
    ∷ edit 36 (0xC0 ∷ 0 ∷ 0 ∷ 0 ∷ 0x9B ∷ [])
    ∷ edit 50 (1 ∷ [])
    ∷ edit 64 (1 ∷ 1 ∷ 0 ∷ 0 ∷ 0x40 ∷ 0 ∷ 1 ∷ 0 ∷ 0x80 ∷ 0 ∷ 0 ∷ 0 ∷ 0x20 ∷ 0 ∷ 1 ∷ 0 ∷ [])
    ∷ edit 80 (0xA0 ∷ 0 ∷ 0 ∷ 0 ∷ 0x20 ∷ 0 ∷ 1 ∷ 1 ∷ [])
    ∷ edit 94 (1 ∷ [])
    ∷ edit 102 (1 ∷ [])
    ∷ edit 110 (1 ∷ [])
    ∷ edit 128 (2 ∷ 1 ∷ [])
    ∷ edit 146 (0xC0 ∷ 0 ∷ 0 ∷ 0 ∷ 2 ∷ [])
    ∷ edit 160 (3 ∷ 1 ∷ 1 ∷ 3 ∷ [])
    ∷ edit 176 (0xC2 ∷ 0 ∷ 0 ∷ 0 ∷ 0x80 ∷ [])
    ∷ edit 192 (0x6E ∷ [])
    ∷ edit 194 (7 ∷ 1 ∷ 3 ∷ 2 ∷ 1 ∷ 0 ∷ 1 ∷ [])
    ∷ edit 213 (3 ∷ 0xFE ∷ [])
    ∷ edit 298 (0x42 ∷ 0x01 ∷ 0 ∷ 0 ∷ 2 ∷ 0 ∷ 0x44 ∷ 0x01 ∷ 0 ∷ 0 ∷ 20 ∷ [])
    ∷ edit 322 (0x68 ∷ [])
    ∷ edit 324 (10 ∷ 1 ∷ 1 ∷ 0 ∷ 3 ∷ [])
    ∷ edit 332 (0x58 ∷ 0x01 ∷ 0 ∷ 0 ∷ 2 ∷ 0 ∷ 0x5A ∷ 0x01 ∷ 0 ∷ 0 ∷ 1 ∷ [])
    ∷ edit 344 (0x69 ∷ 0x61 ∷ 0x64 ∷ [])
    ∷ []))

abbrev pub identity_with : List Edit → List ℕ
identity_with es = summed (apply identity es)

-- its form of n bytes without what stands behind them
abbrev identity_cut : ℕ → List Edit → List ℕ
identity_cut n es = summed (take n (apply identity es))

-- In order: the same, and with noise; version 1 with noise in flag 3 and a reference at 110; no extended info; flag 3 without DHCP and origin; no client
-- identifier, its references ignored; versions 0 and 3; flag 3 with an origin, and with flag 2; a client identifier without IP origin 3; extended info of 19 bytes,
-- not valid, with a wrong ID, version, index; no IAID, no DUID, half a reference at 110; a wrong host name before a wrong extended info, and that before no IAID
abbrev identities : List Case
identities =
    taken identity identity
    ∷ taken (identity_with (edit 200 (0xF1 ∷ []) ∷ edit 310 (replicate 12 0xFF) ∷ edit 328 (replicate 4 0xFF) ∷ edit 50 (0xFF ∷ 0xFF ∷ []) ∷ [])) identity
    ∷ taken (identity_with (edit 197 (1 ∷ []) ∷ edit 200 (0x0D ∷ []) ∷ edit 304 (replicate 6 0xFF) ∷ []))
    (identity_cut 324 (edit 4 (0x44 ∷ []) ∷ edit 40 (0x84 ∷ []) ∷ edit 50 (0 ∷ []) ∷ edit 197 (1 ∷ []) ∷ edit 200 (5 ∷ []) ∷ edit 304 (replicate 6 0) ∷ []))
    ∷ taken (identity_with (edit 304 (replicate 6 0) ∷ [])) (identity_cut 324 (edit 4 (0x44 ∷ []) ∷ edit 40 (0x84 ∷ []) ∷ edit 304 (replicate 6 0) ∷ []))
    ∷ taken (identity_with (edit 200 (9 ∷ []) ∷ edit 213 (0 ∷ []) ∷ edit 328 (1 ∷ []) ∷ []))
    (identity_cut 344 (edit 4 (0x58 ∷ []) ∷ edit 40 (0x98 ∷ []) ∷ edit 200 (9 ∷ []) ∷ edit 213 (0 ∷ []) ∷ edit 328 (1 ∷ []) ∷ edit 332 (replicate 12 0) ∷ []))
    ∷ taken (identity_with (edit 328 (1 ∷ []) ∷ edit 332 (replicate 12 0xFF) ∷ []))
    (identity_cut 344 (edit 4 (0x58 ∷ []) ∷ edit 40 (0x98 ∷ []) ∷ edit 328 (1 ∷ []) ∷ edit 332 (replicate 12 0) ∷ []))
    ∷ refused (identity_with (edit 197 (0 ∷ []) ∷ [])) 12 3 1
    ∷ refused (identity_with (edit 197 (3 ∷ []) ∷ [])) 12 3 1
    ∷ refused (identity_with (edit 200 (9 ∷ []) ∷ [])) 12 3 1
    ∷ refused (identity_with (edit 200 (13 ∷ []) ∷ edit 213 (0 ∷ []) ∷ edit 328 (1 ∷ []) ∷ [])) 12 3 1
    ∷ refused (identity_with (edit 213 (4 ∷ []) ∷ [])) 12 3 1
    ∷ refused (identity_with (edit 308 (19 ∷ []) ∷ [])) 12 3 1
    ∷ refused (identity_with (edit 328 (2 ∷ []) ∷ [])) 12 3 1
    ∷ refused (identity_with (edit 324 (9 ∷ []) ∷ [])) 12 3 1
    ∷ refused (identity_with (edit 325 (2 ∷ []) ∷ [])) 12 3 1
    ∷ refused (identity_with (edit 326 (2 ∷ []) ∷ [])) 12 3 1
    ∷ refused (identity_with (edit 332 (replicate 6 0) ∷ [])) 11 3 1
    ∷ refused (identity_with (edit 338 (replicate 6 0) ∷ [])) 11 3 1
    ∷ refused (identity_with (edit 308 (0 ∷ []) ∷ [])) 11 3 1
    ∷ refused (identity_with (edit 302 (0 ∷ []) ∷ edit 324 (9 ∷ []) ∷ [])) 11 3 1
    ∷ refused (identity_with (edit 324 (9 ∷ []) ∷ edit 332 (replicate 6 0) ∷ [])) 12 3 1
    ∷ []

-- In order: all kinds, the same with noise, the same with longer records; a checksum 128 off; a wrong sum before a wrong header major, and that before a wrong
-- control ID; CSL 63; the host before 64 + CSL; a heap that ends behind Length; host version 2; a wrong driver signature before a wrong host; a two-bit field before
-- a reference; security flags 6:5; a missing reference before an unused HFI's index; info of version 2 before its own reference; extended info of 17 bytes; a
-- secondary list with an unused HFI; a discovery record with HFI index 0
abbrev further : List Case
further =
    taken full full
    ∷ taken (full_with noise) full
    ∷ taken long_records full
    ∷ refused (apply k1 (edit 9 (0x16 ∷ []) ∷ [])) 5 0 0
    ∷ refused (apply k1 (edit 8 (2 ∷ []) ∷ [])) 5 0 0
    ∷ refused (with (edit 8 (2 ∷ []) ∷ edit 64 (2 ∷ []) ∷ [])) 6 0 0
    ∷ refused (with (edit 68 (63 ∷ []) ∷ [])) 7 1 0
    ∷ refused (with (edit 68 (65 ∷ []) ∷ [])) 8 1 0
    ∷ refused (with (edit 40 (3 ∷ []) ∷ [])) 8 1 0
    ∷ refused (with (edit 78 (2 ∷ []) ∷ [])) 9 1 0
    ∷ refused (with (edit 44 (1 ∷ []) ∷ edit 150 (0 ∷ []) ∷ [])) 11 0 0
    ∷ refused (with (edit 129 (0x19 ∷ []) ∷ edit 150 (0 ∷ []) ∷ [])) 10 2 0
    ∷ refused (full_with (edit 354 (0xEB ∷ []) ∷ [])) 10 5 1
    ∷ refused (full_with (edit 270 (1 ∷ []) ∷ edit 282 (0 ∷ []) ∷ [])) 11 4 1
    ∷ refused (full_with (edit 453 (2 ∷ []) ∷ edit 560 (0 ∷ []) ∷ [])) 12 3 2
    ∷ refused (full_with (edit 288 (17 ∷ []) ∷ [])) 12 4 1
    ∷ refused (full_with (edit 586 (1 ∷ []) ∷ [])) 13 4 1
    ∷ refused (full_with (edit 419 (0 ∷ []) ∷ [])) 13 6 1
    ∷ []

-- minor revisions are not looked at, and the form has 0 there: K1 with header minor 1, with control minor 255, with both; major revisions are
abbrev minors : List Case
minors =
    taken (with (edit 50 (1 ∷ []) ∷ [])) k1
    ∷ taken (with (edit 66 (0xFF ∷ []) ∷ [])) k1
    ∷ taken (with (edit 50 (1 ∷ []) ∷ edit 66 (0xFF ∷ []) ∷ [])) k1
    ∷ refused (with (edit 8 (2 ∷ []) ∷ edit 50 (1 ∷ []) ∷ [])) 6 0 0
    ∷ refused (with (edit 65 (2 ∷ []) ∷ edit 66 (1 ∷ []) ∷ [])) 7 1 0
    ∷ further

-- In order: no zero byte; two at the end, none but two; in an info a zero byte first, one inside; of a discovery record a wrong text before half a reference, and
-- that before a wrong text; a wrong info before its wrong host name; a wrong NQN before a wrong extended info; a wrong root path before a secondary list; an empty
-- root path; a text that two references share; zero bytes in driver signature, address and keypath, which are no text
abbrev texts : List Case
texts =
    refused (with (edit 150 (1 ∷ []) ∷ [])) 18 2 0
    ∷ refused (with (edit 160 (0 ∷ []) ∷ [])) 18 2 0
    ∷ refused (full_with (edit 580 (0 ∷ 0x68 ∷ []) ∷ [])) 18 3 2
    ∷ refused (full_with (edit 560 (4 ∷ []) ∷ [])) 18 3 2
    ∷ refused (full_with (edit 614 (0 ∷ []) ∷ edit 432 (1 ∷ []) ∷ [])) 18 6 1
    ∷ refused (full_with (edit 426 (0 ∷ []) ∷ edit 428 (0x65 ∷ 2 ∷ 0 ∷ 0 ∷ 1 ∷ []) ∷ [])) 11 6 1
    ∷ refused (full_with (edit 428 (0x65 ∷ 2 ∷ 0 ∷ 0 ∷ 1 ∷ []) ∷ [])) 18 6 1
    ∷ refused (full_with (edit 453 (2 ∷ []) ∷ edit 581 (1 ∷ []) ∷ [])) 12 3 2
    ∷ refused (full_with (edit 588 (1 ∷ []) ∷ edit 288 (17 ∷ []) ∷ [])) 18 4 1
    ∷ refused (full_with (edit 607 (0 ∷ []) ∷ edit 586 (1 ∷ []) ∷ [])) 18 4 1
    ∷ taken (full_with (edit 607 (0 ∷ []) ∷ edit 605 (1 ∷ []) ∷ []))
    (summed
    (take 607 (apply full (edit 4 (0x67 ∷ []) ∷ edit 40 (0xA7 ∷ []) ∷ edit 358 (0x60 ∷ []) ∷ edit 364 (0x61 ∷ []) ∷ edit 370 (0x62 ∷ []) ∷ edit 382 (0x63 ∷ []) ∷ edit 388 (0x64 ∷ []) ∷ edit 422 (0x65 ∷ []) ∷ edit 605 (1 ∷ []) ∷ []))
    ++ (0 ∷ 1 ∷ 2 ∷ 3 ∷ 4 ∷ 5 ∷ 6 ∷ 0 ∷ [])))
    ∷ taken (full_with (edit 422 (0xC2 ∷ 1 ∷ []) ∷ [])) (full_with (edit 614 (0x6E ∷ []) ∷ []))
    ∷ taken (full_with (edit 449 (0 ∷ []) ∷ edit 583 (0 ∷ []) ∷ edit 613 (0 ∷ []) ∷ [])) (full_with (edit 449 (0 ∷ []) ∷ edit 583 (0 ∷ []) ∷ edit 613 (0 ∷ []) ∷ []))
    ∷ []

-- K1 to K10 in order, then K12 and K13, what K12 becomes with flag 2 clear, and further ones
abbrev pub samples : List Case
samples =
    taken k1 k1
    ∷ taken (k1 ++ (7 ∷ [])) k1
    ∷ refused (take 161 k1) 3 0 0
    ∷ refused (take 159 k1) 1 0 0
    ∷ refused (with (edit 150 (0 ∷ []) ∷ [])) 11 2 0
    ∷ refused (with (edit 146 (0xA1 ∷ []) ∷ [])) 11 2 0
    ∷ taken k7 k7_form
    ∷ refused (with (edit 36 (0xF0 ∷ 0xFF ∷ 0xFF ∷ 0xFF ∷ 0x20 ∷ []) ∷ [])) 8 1 0
    ∷ taken (with (edit 152 (5 ∷ []) ∷ [])) k1
    ∷ refused (with (edit 36 (159 ∷ []) ∷ [])) 8 1 0
    ∷ refused (k12_like 5 0) 13 4 1
    ∷ refused (k12_like 5 1) 13 4 1
    ∷ taken (k12_like 1 1) (k12_like 1 0)
    ∷ minors

-- an info of version 2 and its extended info
pub identities-fine : T (all_fine identities)
unfolding fine
identities-fine = tt

pub samples-fine : T (all_fine samples)
unfolding fine
samples-fine = tt

-- text ends in its only zero byte
pub texts-fine : T (all_fine texts)
unfolding fine
texts-fine = tt

-- ---- looks at records, and 20

-- all kinds with these bytes, at most five, as secondary list: they take the place of the security record's objects, which may be any bytes
abbrev listing : List ℕ → List Edit → List ℕ
listing b es = full_with (edit 272 (0x61 ∷ 2 ∷ 0 ∷ 0 ∷ length b ∷ 0 ∷ []) ∷ edit 609 b ∷ es)

-- HFI 1 is used too. Its info starts 16 bytes behind that of HFI 2 and lies over it, so that the table gets no longer
abbrev both : List Edit
both = edit 160 (3 ∷ 1 ∷ 1 ∷ 3 ∷ []) ∷ edit 176 (0xD4 ∷ 1 ∷ 0 ∷ 0 ∷ 0x80 ∷ []) ∷ edit 468 (7 ∷ 1 ∷ 3 ∷ 1 ∷ 1 ∷ 0 ∷ 1 ∷ []) ∷ []

-- three HFIs, all unused, in the place of security and discovery record
abbrev three : List Edit
three = edit 80 (0x60 ∷ 1 ∷ 0 ∷ 0 ∷ 0x20 ∷ 0 ∷ 1 ∷ 3 ∷ []) ∷ edit 103 (0 ∷ []) ∷ edit 111 (0 ∷ []) ∷ edit 352 (replicate 96 0) ∷ []

-- with as many looks as the bound of their counts: K1, which has no lists; two HFIs, both in the secondary list
abbrev reaching : List Look
reaching = look 0 0 0 1 k1 ∷ look 0 0 0 13 (listing (2 ∷ 1 ∷ []) both) ∷ []

-- Secondary lists, in order: as many indexes as HFIs, the second unused; one too many, for two HFIs and for none; an index twice, at once and behind another; twice and
-- unused, with a wrong index before it; twice before an absent NQN, and behind an absent service; two zero bytes before the heap, which is 11
abbrev secondaries : List Look
secondaries =
    look 13 4 1 9 (listing (2 ∷ 1 ∷ []) [])
    ∷ look 20 4 1 4 (listing (2 ∷ 1 ∷ 3 ∷ []) both)
    ∷ look 20 4 1 2 (full_with (edit 87 (0 ∷ []) ∷ []))
    ∷ look 20 4 1 4 (listing (2 ∷ 2 ∷ []) [])
    ∷ look 20 4 1 5 (listing (2 ∷ 1 ∷ 2 ∷ []) three)
    ∷ look 20 4 1 4 (listing (1 ∷ 1 ∷ []) (edit 232 (2 ∷ []) ∷ []))
    ∷ look 20 4 1 4 (listing (2 ∷ 2 ∷ []) (edit 282 (0 ∷ []) ∷ []))
    ∷ look 11 4 1 4 (listing (2 ∷ 2 ∷ []) (edit 244 (0 ∷ []) ∷ []))
    ∷ look 11 4 1 4 (full_with (edit 272 (0xBE ∷ 1 ∷ 0 ∷ 0 ∷ 2 ∷ []) ∷ []))
    ∷ reaching

-- Each with its answer and its looks, as the second program gives them. In order: K1 refused by tests 1, 8 and 9, for its driver signature, for a host that is not
-- valid, for one without NQN; all kinds, with one HFI unused and with longer records; HFI 1 used and wrong; of the SSNS record a wrong index at 8, 45 and 46; of the
-- discovery record one at 3 and 4; no index that may be left out; nor in K12 with flag 2 clear
abbrev pub look_samples : List Look
look_samples =
    look 1 0 0 0 (take 159 k1)
    ∷ look 8 1 0 0 (with (edit 36 (159 ∷ []) ∷ []))
    ∷ look 9 1 0 0 (with (edit 78 (2 ∷ []) ∷ []))
    ∷ look 11 0 0 0 (with (edit 44 (1 ∷ []) ∷ []))
    ∷ look 10 2 0 1 (with (edit 129 (0 ∷ []) ∷ []))
    ∷ look 11 2 0 1 (with (edit 150 (0 ∷ []) ∷ []))
    ∷ look 0 0 0 12 long_records
    ∷ look 10 3 1 2 (full_with (edit 162 (1 ∷ []) ∷ []))
    ∷ look 13 4 1 5 (full_with (edit 232 (2 ∷ []) ∷ []))
    ∷ look 13 4 1 6 (full_with (edit 269 (2 ∷ []) ∷ []))
    ∷ look 13 4 1 7 (full_with (edit 270 (1 ∷ []) ∷ []))
    ∷ look 13 6 1 11 (full_with (edit 419 (1 ∷ []) ∷ []))
    ∷ look 13 6 1 12 (full_with (edit 420 (2 ∷ []) ∷ []))
    ∷ look 0 0 0 8 (full_with (edit 227 (0x11 ∷ []) ∷ edit 232 (0 ∷ []) ∷ edit 272 (replicate 6 0) ∷ edit 420 (0 ∷ []) ∷ []))
    ∷ look 0 0 0 5 (k12_like 1 0)
    ∷ secondaries

pub looks-fine : T (all_looked look_samples)
unfolding looked
looks-fine = tt

-- these are among the samples above, so that their looks are as they say: for their counts no lower bound holds
pub bound-reached : T (every reaches_most reaching)
bound-reached = tt

-- of K1 its host's flags and name, without the byte that ends it; of K7 a name that is there and empty; a host has position 0 alone, and K1 has no HFI
abbrev pub read_samples : List ReadCase
read_samples =
    found k1 2 0 (field 1) true 0 (1 ∷ [])
    ∷ found k1 2 0 (object 18) true 160 (0x6E ∷ [])
    ∷ found k7 2 0 (object 18) true 161 []
    ∷ denied k1 2 1 (object 18) 16 0 0
    ∷ denied k1 3 0 whole 16 0 0
    ∷ []

pub reads-fine : T (all_fine_reads read_samples)
unfolding fine_read
reads-fine = tt

-- K9 becomes K1, where there is room for its 162 bytes; what stands behind stays
abbrev pub rewrite_samples : List RewriteCase
rewrite_samples =
    written (with (edit 152 (5 ∷ []) ∷ [])) (replicate 163 7) 162 (k1 ++ (7 ∷ []))
    ∷ unwritten k1 (replicate 161 7) 14 0 0
    ∷ []

pub rewrites-fine : T (all_fine_rewrites rewrite_samples)
unfolding fine_rewrite
rewrites-fine = tt

-- K1 with two bytes before its NQN
abbrev holed : List Edit → List ℕ
holed es = summed (apply (k1 ++ (0 ∷ 0 ∷ [])) (edit 4 (0xA4 ∷ []) ∷ edit 40 (4 ∷ []) ∷ edit 146 (0xA2 ∷ []) ∷ edit 160 (0xBE ∷ 0x5C ∷ 0x6E ∷ []) ∷ es))

-- closed: Length stays, and the two bytes set free are zero
abbrev filled : List Edit → List ℕ
filled es = summed (apply (k1 ++ (0 ∷ 0 ∷ [])) (edit 4 (0xA4 ∷ []) ∷ es))

-- three bytes before the heap of all levels of heap records, each object three bytes further
abbrev pushed : List ℕ
pushed =
    summed
    (apply (take 192 identity ++ (7 ∷ 8 ∷ 9 ∷ drop 192 identity))
    (edit 4 (0x5E ∷ [])
    ∷ edit 40 (0x9E ∷ [])
    ∷ edit 146 (0xC3 ∷ [])
    ∷ edit 176 (0xC5 ∷ [])
    ∷ edit 301 (0x45 ∷ [])
    ∷ edit 307 (0x47 ∷ [])
    ∷ edit 335 (0x5B ∷ [])
    ∷ edit 341 (0x5D ∷ [])
    ∷ []))

-- In order: K1, which has no hole; two bytes before its NQN, with a map of one byte and of two; the same where the driver signature shares a byte of it; no map; a
-- refused table; a hole before all levels of heap records, with a map that is longer than it need be; references that are ignored mark nothing and stay; text
-- inside a heap record, with a map that is too short and one that is not; a heap record whose bytes beyond its own reach into the next object
abbrev pub close_samples : List CloseCase
close_samples =
    shut k1 (0x82 ∷ []) 0 k1 (3 ∷ [])
    ∷ shut (holed []) (14 ∷ []) 2 (filled []) (12 ∷ [])
    ∷ shut (holed []) (7 ∷ 0xFF ∷ []) 2 (filled []) (12 ∷ 0 ∷ [])
    ∷ shut (holed (edit 44 (0xA3 ∷ 0 ∷ 0 ∷ 0 ∷ 1 ∷ []) ∷ [])) (0 ∷ []) 2 (filled (edit 44 (0xA1 ∷ 0 ∷ 0 ∷ 0 ∷ 1 ∷ []) ∷ [])) (12 ∷ [])
    ∷ unclosed (holed []) [] 14 0 0
    ∷ unclosed (take 161 k1) [] 3 0 0
    ∷ shut pushed (replicate 21 7) 155 (summed (apply (identity ++ (0 ∷ 0 ∷ 0 ∷ [])) (edit 4 (0x5E ∷ []) ∷ []))) (0xF8 ∷ (replicate 18 0xFF ++ (0x3F ∷ 0 ∷ [])))
    ∷ shut (identity_with (edit 328 (1 ∷ []) ∷ [])) (replicate 20 0) 0 (identity_with (edit 40 (0x98 ∷ []) ∷ edit 328 (1 ∷ []) ∷ edit 344 (0 ∷ 0 ∷ 0 ∷ []) ∷ []))
    (replicate 19 0xFF ++ (0 ∷ []))
    ∷ unclosed (identity_with (edit 146 (0x46 ∷ 1 ∷ []) ∷ [])) (replicate 19 0) 14 0 0
    ∷ unclosed (identity_with (edit 146 (0x46 ∷ 1 ∷ []) ∷ [])) (replicate 20 0) 19 0 0
    ∷ unclosed (identity_with (edit 308 (21 ∷ []) ∷ [])) (replicate 20 0) 19 0 0
    ∷ []

pub closes-fine : T (all_fine_closes close_samples)
unfolding fine_close
closes-fine = tt

-- K1 before it is finished: no Length, no checksum, no heap length
abbrev unfinished : List ℕ
unfinished = apply k1 (edit 4 (0 ∷ []) ∷ edit 9 (0 ∷ []) ∷ edit 40 (0 ∷ []) ∷ [])

-- and before its host is told
abbrev opened : List ℕ
opened = apply unfinished (edit 128 (0 ∷ 0 ∷ []) ∷ edit 146 (0 ∷ []) ∷ edit 150 (0 ∷ []) ∷ edit 160 (7 ∷ 7 ∷ []) ∷ [])

-- K1 is built: begin, its host, told with no valid bit, finish; then each call is late
abbrev pub build_samples : List BuildCase
build_samples =
    let oem : List ℕ = replicate 26 0 in
    stepped empty (replicate 162 7) (beginning oem (0 ∷ 0 ∷ 0 ∷ 0 ∷ []) []) (state 2 0 0 0 0 0 160 0) opened
    ∷ stepped (state 2 0 0 0 0 0 160 0) opened (a_host (replicate 32 0) (0x6E ∷ [])) (state 7 0 0 0 0 0 162 0) unfinished
    ∷ halted (state 2 0 0 0 0 0 160 0) opened (a_host (replicate 32 0) (0x6E ∷ 0 ∷ [])) 18 2 0
    ∷ halted (state 2 0 0 0 0 0 160 0) opened (a_host (replicate 32 0) []) 11 2 0
    ∷ stepped (state 7 0 0 0 0 0 162 0) unfinished finishing (state 8 0 0 0 0 0 162 0) k1
    ∷ halted (state 8 0 0 0 0 0 162 0) k1 finishing 15 0 0
    ∷ []

pub builds-fine : T (all_fine_builds build_samples)
unfolding fine_build
builds-fine = tt
