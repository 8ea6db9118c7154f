-- The objects of a security record. Definitions only.
use Rattle.std.specs.Prelude.{List, ℕ}
use Rattle.table.specs.Layout.{anything}
use Rattle.table.specs.FixedLayouts.{security}
use Rattle.table.specs.Reads.{need_at}
use Rattle.table.specs.Rules.{first_of}
use Rattle.laws.specs.TextLaws.{told_fault}

-- the first fault of a security record's objects: img is the record's image
abbrev pub security_fault : (img algorithms protocols ciphers groups hashes keypath : List ℕ) → ℕ
security_fault img algorithms protocols ciphers groups hashes keypath =
    first_of (told_fault (need_at 6 security.refs img) anything algorithms)
    (first_of (told_fault (need_at 12 security.refs img) anything protocols)
    (first_of (told_fault (need_at 18 security.refs img) anything ciphers)
    (first_of (told_fault (need_at 24 security.refs img) anything groups)
    (first_of (told_fault (need_at 30 security.refs img) anything hashes) (told_fault (need_at 36 security.refs img) anything keypath)))))
