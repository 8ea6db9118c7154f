-- Rules 2.1 to 2.10, 3.7, 3.9 (docs/RULES.md): header, control, host, HFI, SSNS, security, discovery, info (7), extended (9), HFI extended (10), indexes.
-- Definitions only.
use Rattle.std.specs.Prelude.{Bool, false, ◌&&◌, ◌||◌, List, [], ◌∷◌, ℕ, get_or, eqb}
use Rattle.table.specs.declared.Need.{Need}
use Rattle.table.specs.declared.Need.TheVariants.{Ignored, Optional, Required}
use Rattle.table.specs.Bytes.{pick, bits, edit}
use Rattle.table.specs.Layout.{region, field, flags, flags_if, only_if, reference, frame, reserved, at, nowhere, shaped, asking, anything, text, positions}
use Rattle.table.specs.Layout.{Refs, none, plain, nest, Slots, slot_at, rec_at, Index, index, unless, each, Layout}

-- ---- when a reference counts

abbrev pub required : List ℕ → Need
required img = Required

abbrev pub optional : List ℕ → Need
optional img = Optional

-- required where the bits hi to lo of the n bytes at a are not zero, and else ignored
abbrev pub when_set : ℕ → ℕ → ℕ → ℕ → List ℕ → Need
when_set a n hi lo img = pick (eqb (bits a n hi lo img) 0) Ignored Required

-- optional where byte a is v, and else ignored
abbrev pub when_is : ℕ → ℕ → List ℕ → Need
when_is a v img = pick (eqb (get_or img a 0) v) Optional Ignored

-- ---- indexes

abbrev pub no_indexes : {rs : Refs} → List ℕ → Slots rs → List Index
no_indexes img ss = []

-- ---- the header minor

abbrev pub not_newer : {rs : Refs} → Slots rs → Bool
not_newer ss = false

-- ---- how the lines of a figure are read: first byte, name, stretch (Layout)

-- flags 2 9: two bytes, of which the lowest nine bits count. flags_if 1 3 3 1 1: one byte, of which the lowest three bits count, and one more if bit 1 of byte 3 is
-- set. only_if 16 6 2: sixteen bytes, which count if bit 2 of byte 6 is set. No fields are the bytes of a reference, those of header and control record that tests
-- look at or the form fixes (frame), and reserved ones

-- ---- outside the lists

unfoldable pub header : Layout
header = record {
  kind = 0;
  shape = shaped (record {
    lines =
        at 0 "signature" (frame 4)
        ∷ at 4 "Length" (frame 4)
        ∷ at 8 "major" (frame 1)
        ∷ at 9 "checksum" (frame 1)
        ∷ at 10 "OEM ID" (field 6)
        ∷ at 16 "OEM table ID" (field 8)
        ∷ at 24 "OEM revision" (field 4)
        ∷ at 28 "creator ID" (field 4)
        ∷ at 32 "creator revision" (field 4)
        ∷ at 36 "heap offset" (frame 4)
        ∷ at 40 "heap length" (frame 4)
        ∷ at 44 "driver signature" reference
        ∷ at 50 "minor" (frame 1)
        ∷ at 51 "reserved" (reserved 13)
        ∷ [];
    fixed = [];
    index = nowhere;
    flags = nowhere;
    pairs = [];
  });
  refs = plain 44 optional anything none;
  indexes = no_indexes;
  newer = not_newer;
}

-- its offsets are absolute, so it is read from the table's first byte on
unfoldable pub control : Layout
control = record {
  kind = 1;
  shape = shaped (record {
    lines =
        at 0 "header" (frame 64)
        ∷ at 64 "ID" (frame 1)
        ∷ at 65 "major" (frame 1)
        ∷ at 66 "minor" (frame 1)
        ∷ at 67 "reserved" (reserved 1)
        ∷ at 68 "CSL" (frame 2)
        ∷ at 70 "flags" (frame 1)
        ∷ at 71 "reserved" (reserved 1)
        ∷ at 72 "host offset" (frame 4)
        ∷ at 76 "host length" (frame 2)
        ∷ at 78 "host version" (frame 1)
        ∷ at 79 "reserved" (reserved 1)
        ∷ at 80 "HFI list offset" (frame 4)
        ∷ at 84 "HFI record length" (frame 2)
        ∷ at 86 "HFI version" (frame 1)
        ∷ at 87 "HFI count" (field 1)
        ∷ at 88 "SSNS list offset" (frame 4)
        ∷ at 92 "SSNS record length" (frame 2)
        ∷ at 94 "SSNS version" (frame 1)
        ∷ at 95 "SSNS count" (field 1)
        ∷ at 96 "security list offset" (frame 4)
        ∷ at 100 "security record length" (frame 2)
        ∷ at 102 "security version" (frame 1)
        ∷ at 103 "security count" (field 1)
        ∷ at 104 "discovery list offset" (frame 4)
        ∷ at 108 "discovery record length" (frame 2)
        ∷ at 110 "discovery version" (frame 1)
        ∷ at 111 "discovery count" (field 1)
        ∷ at 112 "reserved" (reserved 16)
        ∷ [];
    fixed = [];
    index = nowhere;
    flags = nowhere;
    pairs = [];
  });
  refs = none;
  indexes = no_indexes;
  newer = not_newer;
}

unfoldable pub host : Layout
host = record {
  kind = 2;
  shape = shaped (record {
    lines =
        at 0 "ID" (field 1)
        ∷ at 1 "flags" (flags 1 5)
        ∷ at 2 "host ID" (field 16)
        ∷ at 18 "host NQN" reference
        ∷ at 24 "reserved" (reserved 8)
        ∷ [];
    fixed = edit 0 (2 ∷ []) ∷ [];
    index = nowhere;
    flags = region 1 1;
    pairs = 3 ∷ [];
  });
  refs = plain 18 required text none;
  indexes = no_indexes;
  newer = not_newer;
}

-- ---- in the heap

-- the info's version is 1 or 2; autoconfigured (bit 3) goes with neither DHCP (bit 2) nor an IP origin
abbrev pub info_rule : List ℕ → List ℕ → Bool
info_rule owner img =
    (eqb (get_or img 3 0) 1 || eqb (get_or img 3 0) 2)
    && (eqb (bits 6 1 3 3 img) 0 || (eqb (bits 6 1 2 2 img) 0 && eqb (get_or img 19 0) 0))

-- a client identifier (bit 1) goes with the info's IP origin 3
abbrev pub identity_rule : List ℕ → List ℕ → Bool
identity_rule info img = eqb (bits 4 4 1 1 img) 0 || eqb (get_or info 19 0) 3

-- named by an info of version 2; its references are the IAID and the DUID
unfoldable pub hfi_extended : Layout
hfi_extended = record {
  kind = 10;
  shape = asking identity_rule (shaped (record {
    lines =
        at 0 "ID" (field 1)
        ∷ at 1 "version" (field 1)
        ∷ at 2 "HFI index" (field 2)
        ∷ at 4 "flags" (flags 4 2)
        ∷ at 8 "IAID" reference
        ∷ at 14 "DUID" reference
        ∷ [];
    fixed = edit 0 (10 ∷ 1 ∷ []) ∷ [];
    index = region 2 2;
    flags = region 4 4;
    pairs = [];
  }));
  refs = plain 8 (when_set 4 4 1 1) anything (plain 14 (when_set 4 4 1 1) anything none);
  indexes = no_indexes;
  newer = not_newer;
}

-- byte 3 is its version; under version 2 flag 3 counts
unfoldable pub info : Layout
info = record {
  kind = 7;
  shape = asking info_rule (shaped (record {
    lines =
        at 0 "ID" (field 1)
        ∷ at 1 "version" (field 1)
        ∷ at 2 "transport type" (field 1)
        ∷ at 3 "transport info version" (field 1)
        ∷ at 4 "HFI index" (field 2)
        ∷ at 6 "flags" (flags_if 1 3 3 1 1)
        ∷ at 7 "PCI Express routing ID" (field 4)
        ∷ at 11 "MAC address" (field 6)
        ∷ at 17 "VLAN" (field 2)
        ∷ at 19 "IP origin" (field 1)
        ∷ at 20 "IP address" (field 16)
        ∷ at 36 "subnet mask prefix" (field 1)
        ∷ at 37 "IP gateway" (field 16)
        ∷ at 53 "reserved" (reserved 1)
        ∷ at 54 "route metric" (field 2)
        ∷ at 56 "primary DNS" (field 16)
        ∷ at 72 "secondary DNS" (field 16)
        ∷ at 88 "DHCP server" (only_if 16 6 2)
        ∷ at 104 "host name" reference
        ∷ at 110 "HFI extended info" reference
        ∷ at 116 "reserved" (reserved 12)
        ∷ [];
    fixed = edit 0 (7 ∷ 1 ∷ 3 ∷ []) ∷ [];
    index = region 4 2;
    flags = region 6 1;
    pairs = [];
  }));
  refs = plain 104 optional text (nest 110 (when_is 3 2) hfi_extended.shape hfi_extended.refs none);
  indexes = no_indexes;
  newer = not_newer;
}

unfoldable pub extended : Layout
extended = record {
  kind = 9;
  shape = shaped (record {
    lines =
        at 0 "ID" (field 1)
        ∷ at 1 "version" (field 1)
        ∷ at 2 "SSNS index" (field 2)
        ∷ at 4 "flags" (flags 4 2)
        ∷ at 8 "controller ID" (field 2)
        ∷ at 10 "admin queue size" (field 2)
        ∷ at 12 "root path" reference
        ∷ [];
    fixed = edit 0 (9 ∷ 1 ∷ []) ∷ [];
    index = region 2 2;
    flags = region 4 4;
    pairs = [];
  });
  refs = plain 12 optional text none;
  indexes = no_indexes;
  newer = not_newer;
}

-- ---- the four lists

-- an info of version 2 asks for header minor 1
unfoldable pub hfi : Layout
hfi = record {
  kind = 3;
  shape = shaped (record {
    lines =
        at 0 "ID" (field 1)
        ∷ at 1 "index" (field 1)
        ∷ at 2 "flags" (flags 1 1)
        ∷ at 3 "transport type" (field 1)
        ∷ at 4 "reserved" (reserved 12)
        ∷ at 16 "transport info" reference
        ∷ at 22 "reserved" (reserved 10)
        ∷ [];
    fixed = edit 0 (3 ∷ []) ∷ edit 3 (3 ∷ []) ∷ [];
    index = region 1 1;
    flags = region 2 1;
    pairs = [];
  });
  refs = nest 16 required info.shape info.refs none;
  indexes = no_indexes;
  newer = λ ss. eqb (get_or (rec_at 16 ss) 3 0) 2;
}

unfoldable pub ssns : Layout
ssns = record {
  kind = 4;
  shape = shaped (record {
    lines =
        at 0 "ID" (field 1)
        ∷ at 1 "index" (field 2)
        ∷ at 3 "flags" (flags 2 9)
        ∷ at 5 "transport type" (field 1)
        ∷ at 6 "transport flags" (flags 2 3)
        ∷ at 8 "discovery index" (field 1)
        ∷ at 9 "reserved" (reserved 1)
        ∷ at 10 "transport address" reference
        ∷ at 16 "transport service ID" reference
        ∷ at 22 "port ID" (field 2)
        ∷ at 24 "NSID" (field 4)
        ∷ at 28 "NIDT" (field 1)
        ∷ at 29 "NID" (field 16)
        ∷ at 45 "security index" (only_if 1 3 2)
        ∷ at 46 "primary HFI index" (field 1)
        ∷ at 47 "reserved" (reserved 1)
        ∷ at 48 "secondary HFI indexes" reference
        ∷ at 54 "subsystem NQN" reference
        ∷ at 60 "extended info" reference
        ∷ at 66 "reserved" (reserved 62)
        ∷ [];
    fixed = edit 0 (4 ∷ []) ∷ edit 5 (3 ∷ []) ∷ [];
    index = region 1 2;
    flags = region 3 2;
    pairs = 7 ∷ [];
  });
  refs =
      plain 10 required anything
      (plain 16 required anything
      (plain 48 optional positions
      (plain 54 required text (nest 60 (when_set 3 2 4 4) extended.shape extended.refs none))));
  indexes = λ img ss.
      unless (eqb (get_or img 8 0) 0) (index 6 (get_or img 8 0))
      (unless (eqb (bits 3 2 2 2 img) 0) (index 5 (get_or img 45 0))
      (index 3 (get_or img 46 0) ∷ each 3 (slot_at 48 ss)));
  newer = not_newer;
}

unfoldable pub security : Layout
security = record {
  kind = 5;
  shape = shaped (record {
    lines =
        at 0 "ID" (field 1)
        ∷ at 1 "index" (field 1)
        ∷ at 2 "flags" (flags 2 12)
        ∷ at 4 "secret type" (flags 1 1)
        ∷ at 5 "reserved" (reserved 1)
        ∷ at 6 "secure channel algorithms" reference
        ∷ at 12 "authentication protocols" reference
        ∷ at 18 "cipher suites" reference
        ∷ at 24 "DH groups" reference
        ∷ at 30 "hash functions" reference
        ∷ at 36 "keypath" reference
        ∷ at 42 "reserved" (reserved 22)
        ∷ [];
    fixed = edit 0 (5 ∷ []) ∷ [];
    index = region 1 1;
    flags = region 2 2;
    pairs = 1 ∷ 3 ∷ 5 ∷ 7 ∷ [];
  });
  refs =
      plain 6 (when_set 2 2 8 7) anything
      (plain 12 (when_set 2 2 4 3) anything
      (plain 18 (when_set 2 2 9 9) anything
      (plain 24 (when_set 2 2 10 10) anything
      (plain 30 (when_set 2 2 11 11) anything
      (plain 36 (when_set 4 1 0 0) anything none)))));
  indexes = no_indexes;
  newer = not_newer;
}

unfoldable pub discovery : Layout
discovery = record {
  kind = 6;
  shape = shaped (record {
    lines =
        at 0 "ID" (field 1)
        ∷ at 1 "flags" (flags 1 1)
        ∷ at 2 "index" (field 1)
        ∷ at 3 "HFI index" (field 1)
        ∷ at 4 "security index" (field 1)
        ∷ at 5 "reserved" (reserved 1)
        ∷ at 6 "controller address" reference
        ∷ at 12 "controller NQN" reference
        ∷ at 18 "reserved" (reserved 14)
        ∷ [];
    fixed = edit 0 (6 ∷ []) ∷ [];
    index = region 2 1;
    flags = region 1 1;
    pairs = [];
  });
  refs = plain 6 optional text (plain 12 optional text none);
  indexes = λ img ss. index 3 (get_or img 3 0) ∷ unless (eqb (get_or img 4 0) 0) (index 5 (get_or img 4 0)) [];
  newer = not_newer;
}

-- in the order of their entries in the control record
abbrev pub list_kinds : List Layout
list_kinds = hfi ∷ ssns ∷ security ∷ discovery ∷ []

-- ---- by kind number

-- a number that is no kind: no fields and no references
unfoldable pub no_kind : Layout
no_kind = record {
  kind = 16;
  shape = shaped (record { lines = []; fixed = []; index = nowhere; flags = nowhere; pairs = [] });
  refs = none;
  indexes = no_indexes;
  newer = not_newer;
}

unfoldable pub layout_of : ℕ → Layout
layout_of k =
    pick (eqb k 0) header
    (pick (eqb k 1) control
    (pick (eqb k 2) host
    (pick (eqb k 3) hfi
    (pick (eqb k 4) ssns
    (pick (eqb k 5) security (pick (eqb k 6) discovery (pick (eqb k 7) info (pick (eqb k 9) extended (pick (eqb k 10) hfi_extended no_kind)))))))))
