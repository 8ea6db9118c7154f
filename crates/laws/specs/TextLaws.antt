-- Text: bytes none of which is zero, and one zero byte behind them; as it is told, kept, and handed back by the object call. Assumes nothing.
use Rattle.std.specs.Prelude.{◌≡◌, Bool, not, ◌&&◌, ◌||◌, List, [], ◌∷◌, ◌++◌, ℕ, zero, suc, ◌+◌, ◌-◌, ◌≤◌, ◌<◌, length, take, drop, T, leb, eqb}
use Rattle.std.proofs.Math.Path.{refl}
use Rattle.std.proofs.Common.{sym, ap, ap₂, ◌∙◌, subst, arith, length-append, length-take, length-drop, eqb→eq, leb→le, lit<, le-leb, leb-true}
use Rattle.std.proofs.Math.Bool.{true, false}
use Rattle.std.proofs.Math.Dec.{leb-zero}
use Rattle.std.proofs.lemmas.Bool.{eqb-false}
use Rattle.std.proofs.Math.Facts.{and_yes, eqb_no}
use Rattle.table.specs.declared.Answer.{Answer}
use Rattle.table.specs.declared.Region.{Region}
use Rattle.table.specs.declared.Need.{Need}
use Rattle.table.specs.declared.Need.TheVariants.{Ignored, Optional, Required}
use Rattle.table.specs.declared.Place.{Place}
use Rattle.table.specs.Bytes.{every, num, part, pick}
use Rattle.table.specs.Layout.{are_positions, Content, Env, Layout, Refs, Shape, Slots, anything, bytes, gone, image, is_text, nest, nil, none, plain, rec, slot_at, positions, text}
use Rattle.table.specs.FixedLayouts.{discovery, extended, header, hfi, hfi_extended, host, info, security, ssns}
use Rattle.table.specs.Objects.{read_slots, under}
use Rattle.table.specs.Rules.{answer, done, first_of, nest_rule, plain_rule, reaches, ref_rule, refs_rule, ruled}
use Rattle.table.specs.Reads.{content_at, handed, has_plain, need_at, no_place, place_at, ref_place, seat, whole_at}
use Rattle.table.specs.Builder.{ended, fits_need, is_short, told_slots}
use Rattle.laws.specs.Lawful.{Fit}
use Rattle.laws.specs.Sound.{first-of, pick-of}
use Rattle.laws.specs.RefWalk.{first-zero, nest_at}

-- no byte is zero
abbrev pub no_zero : List ℕ → Bool
no_zero b = every (λ x. not (eqb x 0)) b

-- all but the last byte
abbrev pub cut : List ℕ → List ℕ
cut [] = []
cut (b ∷ []) = []
cut (b ∷ c ∷ cs) = b ∷ cut (c ∷ cs)

-- an object without its terminator, if it is text
abbrev pub bare : Content → List ℕ → List ℕ
bare anything b = b
bare positions b = b
bare text b = cut b

-- ---- kept

-- a text is the bytes before its last one, none of which is zero, and a zero byte
pub text-is : (b : List ℕ) → T (is_text b) → (cut b ++ (0 ∷ []) ≡ b) × T (no_zero (cut b))
text-is [] t = absurd t
text-is (b ∷ []) t = (ap (λ (x : ℕ). x ∷ []) (sym (eqb→eq b 0 t)), tt)
text-is (b ∷ c ∷ cs) t =
    let u = and_yes (not (eqb b 0)) (is_text (c ∷ cs)) t in
    let v = text-is (c ∷ cs) u.1 in
    (ap (λ (x : List ℕ). b ∷ x) v.0, yes (not (eqb b 0)) _ u.0 v.1)
  where
    yes : (x y : Bool) → T x → T y → T (x && y)
    yes true y t u = u
    yes false y t u = t

-- the first i bytes of a text, and the rest of it: for a loop from the front; of the last byte alone it says that it is zero
pub text-split : (i : ℕ) (b : List ℕ) → i < length b → is_text b ≡ (no_zero (take i b) && is_text (drop i b))
text-split zero b k = refl
text-split (suc i) [] k = absurd (omega arith)
text-split (suc i) (b ∷ []) k = absurd (omega arith)
text-split (suc i) (b ∷ c ∷ cs) k =
    ap (λ (x : Bool). not (eqb b 0) && x) (text-split i (c ∷ cs) (omega arith)) ∙ go (not (eqb b 0)) (no_zero (take i (c ∷ cs))) (is_text (drop i (c ∷ cs)))
  where
    go : (x y z : Bool) → (x && (y && z)) ≡ ((x && y) && z)
    go true y z = refl
    go false y z = refl

-- ---- which references are to text

-- the offsets of those of a record, heap records apart
abbrev pub texts_of : Refs → List ℕ
texts_of none = []
texts_of (plain p need anything rest) = texts_of rest
texts_of (plain p need positions rest) = texts_of rest
texts_of (plain p need text rest) = p ∷ texts_of rest
texts_of (nest p need shape own rest) = texts_of rest

pub record OnlyTexts : Type 0 where
  pub of_header : texts_of header.refs ≡ []
  pub of_host : texts_of host.refs ≡ 18 ∷ []
  pub of_hfi : texts_of hfi.refs ≡ []
  pub of_ssns : texts_of ssns.refs ≡ 54 ∷ []
  pub of_security : texts_of security.refs ≡ []
  pub of_discovery : texts_of discovery.refs ≡ 6 ∷ 12 ∷ []
  pub of_info : texts_of info.refs ≡ 104 ∷ []
  pub of_extended : texts_of extended.refs ≡ 12 ∷ []
  pub of_identity : texts_of hfi_extended.refs ≡ []

pub only-texts : OnlyTexts
unfolding header host hfi ssns security discovery info extended hfi_extended
only-texts = record {
  of_header = refl;
  of_host = refl;
  of_hfi = refl;
  of_ssns = refl;
  of_security = refl;
  of_discovery = refl;
  of_info = refl;
  of_extended = refl;
  of_identity = refl;
}

-- ---- told

-- told text, ended, is text exactly where no byte of it is zero
pub told_text : (s : List ℕ) → is_text (s ++ (0 ∷ [])) ≡ no_zero s
told_text [] = refl
told_text (b ∷ []) = refl
told_text (b ∷ c ∷ cs) = ap (λ (x : Bool). not (eqb b 0) && x) (told_text (c ∷ cs))

-- so the builder's 18 is a zero byte in told text
pub told-eighteen : (e : Env) (s : List ℕ) → ruled text e (ended text s) ≡ pick (no_zero s) 0 18
told-eighteen e [] = refl
told-eighteen e (b ∷ bs) = ap (λ (c : Bool). pick {X = ℕ} c 0 18) (told_text (b ∷ bs))

-- and its 11 stops text above 65,534 bytes
pub told-short : (b : ℕ) (bs : List ℕ) → is_short (ended text (b ∷ bs)) ≡ leb (length (b ∷ bs)) 65534
told-short b bs = ap (λ (n : ℕ). leb n 65535) (length-append (b ∷ bs) (0 ∷ [])) ∙ go (length (b ∷ bs)) (leb (length (b ∷ bs)) 65534) refl
  where
    go : (n : ℕ) (c : Bool) → leb n 65534 ≡ c → leb (n + 1) 65535 ≡ c
    go n true e = let k : n ≤ 65534 = leb-true n 65534 e in le-leb (n + 1) 65535 (omega arith)
    go n false e = no (leb (n + 1) 65535) refl
      where
        no : (d : Bool) → leb (n + 1) 65535 ≡ d → d ≡ false
        no true f =
            let k : n + 1 ≤ 65535 = leb-true (n + 1) 65535 f in
            let y : leb n 65534 ≡ true = le-leb n 65534 (omega arith) in
            sym y ∙ e
        no false f = refl

text-fault : {x y : Bool} {r s : ℕ} → x ≡ y → r ≡ s → first_of (pick x 0 11) r ≡ pick y s 11
text-fault {x} {y} {r} {s} e f = ap₂ (λ (c : Bool) (n : ℕ). first_of (pick c 0 11) n) e f ∙ go y
  where
    go : (c : Bool) → first_of (pick c 0 11) s ≡ pick c s 11
    go true = refl
    go false = refl

-- a told object's fault by the bytes told, and nothing else: how many positions there may be is not asked here
abbrev pub bytes_fault : Content → List ℕ → ℕ
bytes_fault anything b = pick (leb (length b) 65535) 0 11
bytes_fault positions b = pick (leb (length b) 65535) 0 11
bytes_fault text b = pick (leb (length b) 65534) (pick (no_zero b) 0 18) 11

abbrev pub told_fault : Need → Content → List ℕ → ℕ
told_fault Ignored content b = 0
told_fault Optional content b = bytes_fault content b
told_fault Required content [] = 11
told_fault Required content (b ∷ bs) = bytes_fault content (b ∷ bs)

-- with what is asked of positions where so many HFIs are told
abbrev pub told_in : Env → Need → Content → List ℕ → ℕ
told_in e m anything b = told_fault m anything b
told_in e m text b = told_fault m text b
told_in e m positions b = first_of (told_fault m positions b) (under m 0 (pick (are_positions (e.count 3) b) 0 20))

-- it is what the builder finds of the object as it is kept
pub told-fault : (e : Env) (m : Need) (content : Content) (b : List ℕ) → let x = under m [] (ended content b) in
    first_of (pick (fits_need m x && is_short x) 0 11) (ruled content e x) ≡ told_in e m content b
told-fault e Ignored anything b = refl
told-fault e Ignored text b = refl
told-fault e Required anything [] = refl
told-fault e Required text [] = refl
told-fault e Optional anything [] = refl
told-fault e Optional text [] = refl
told-fault e Optional anything (b ∷ bs) = first-zero (pick (is_short (b ∷ bs)) 0 11)
told-fault e Required anything (b ∷ bs) = first-zero (pick (is_short (b ∷ bs)) 0 11)
told-fault e Ignored positions b = refl
told-fault e Required positions [] = refl
told-fault e Optional positions [] = rw (leb-zero (e.count 3))
told-fault e Optional positions (b ∷ bs) = refl
told-fault e Required positions (b ∷ bs) = refl
told-fault e Optional text (b ∷ bs) = text-fault (told-short b bs) (told-eighteen e (b ∷ bs))
told-fault e Required text (b ∷ bs) = text-fault (told-short b bs) (told-eighteen e (b ∷ bs))

cut-end : (s : List ℕ) → cut (s ++ (0 ∷ [])) ≡ s
cut-end [] = refl
cut-end (b ∷ []) = refl
cut-end (b ∷ c ∷ cs) = ap (λ (x : List ℕ). b ∷ x) (cut-end (c ∷ cs))

-- what was told comes back
pub bare-ended : (content : Content) (s : List ℕ) → bare content (ended content s) ≡ s
bare-ended anything s = refl
bare-ended positions s = refl
bare-ended text [] = refl
bare-ended text (b ∷ bs) = cut-end (b ∷ bs)

-- and an object that is no empty text can be told again
pub ended-bare : (e : Env) (b : ℕ) (bs : List ℕ) (content : Content) → ruled content e (b ∷ bs) ≡ 0 → (bare content (b ∷ bs) ≡ [] → ⊥) → ended content (bare content (b ∷ bs)) ≡ b ∷ bs
ended-bare e b bs anything r n = refl
ended-bare e b bs positions r n = refl
ended-bare e b bs text r n = go (is_text (b ∷ bs)) refl r
  where
    again : (x : List ℕ) → (x ≡ [] → ⊥) → ended text x ≡ x ++ (0 ∷ [])
    again [] k = absurd (k refl)
    again (y ∷ ys) k = refl

    go : (c : Bool) → is_text (b ∷ bs) ≡ c → pick {X = ℕ} c 0 18 ≡ 0 → ended text (cut (b ∷ bs)) ≡ b ∷ bs
    go true e q = again (cut (b ∷ bs)) n ∙ (text-is (b ∷ bs) (rw e tt)).0
    go false e q = absurd (omega arith)

-- ---- in the slots of a record

-- the slots that fit: what they hold obeys its rule
pub fit-rule : {rs : Refs} (e : Env) (img : List ℕ) (ss : Slots rs) (q : ℕ) → Fit e img ss → ruled (content_at q rs) e (slot_at q ss) ≡ 0
unfolding slot_at
fit-rule e img nil q f = refl
fit-rule e img (bytes {p = p} {content = content} {rest = rest} b ss) q f = go (eqb q p) (eqb→eq (ruled content e b) 0 f.0.lawful) (fit-rule e img ss q f.1)
  where
    go : (c : Bool) → ruled content e b ≡ 0 → ruled (content_at q rest) e (slot_at q ss) ≡ 0 → ruled (pick c content (content_at q rest)) e (pick c b (slot_at q ss)) ≡ 0
    go true x y = x
    go false x y = y
fit-rule e img (gone ss) q f = fit-rule e img ss q f.1
fit-rule e img (rec img' own ss) q f = fit-rule e img ss q f.2

-- a present text of slots that fit: without its terminator it has no zero byte, and with one behind it is the object
pub record TextSlot (b : List ℕ) : Type 0 where
  pub whole : cut b ++ (0 ∷ []) ≡ b
  pub clean : T (no_zero (cut b))

pub text-slot : (e : Env) (x : List ℕ) → (x ≡ [] → ⊥) → ruled text e x ≡ 0 → TextSlot x
text-slot e [] k r = absurd (k refl)
text-slot e (b ∷ bs) k r = go (is_text (b ∷ bs)) refl r
  where
    go : (c : Bool) → is_text (b ∷ bs) ≡ c → pick {X = ℕ} c 0 18 ≡ 0 → TextSlot (b ∷ bs)
    go true f q = let u = text-is (b ∷ bs) (rw f tt) in record { whole = u.0; clean = u.1 }
    go false f q = absurd (omega arith)

pub fit-text : {rs : Refs} (e : Env) (img : List ℕ) (ss : Slots rs) (q : ℕ) → Fit e img ss → content_at q rs ≡ text → (slot_at q ss ≡ [] → ⊥) → TextSlot (slot_at q ss)
fit-text {rs} e img ss q f c n = text-slot e (slot_at q ss) n (ap (λ (k : Content). ruled k e (slot_at q ss)) (sym c) ∙ fit-rule e img ss q f)

-- ---- an object by its reference, as it is read and as it was told

-- no heap record's slot is an object's
module _ {own rest : Refs} (p : ℕ) (need : List ℕ → Need) (shape : Shape) (x : List ℕ) (os : Slots own) (ss : Slots rest) (q : ℕ) where
  read_past : (m : Need) (z : Bool)
      → let lacks = gone {p = p} {need = need} {shape = shape} {own = own} ss in slot_at q (under m lacks (pick z lacks (rec {p = p} {need = need} {shape = shape} x os ss))) ≡ slot_at q ss
  unfolding slot_at
  read_past Ignored z = refl
  read_past Optional true = refl
  read_past Optional false = refl
  read_past Required true = refl
  read_past Required false = refl

  told-past : (m : Need) → slot_at q (under m (gone {p = p} {need = need} {shape = shape} {own = own} ss) (rec {p = p} {need = need} {shape = shape} x os ss)) ≡ slot_at q ss
  unfolding slot_at
  told-past Ignored = refl
  told-past Optional = refl
  told-past Required = refl

-- nor its need
need-past : (p q : ℕ) (m : Need) (rest : Refs) (img b : List ℕ) → T (not (eqb q p || nest_at q rest))
    → under (pick (eqb q p) m (need_at q rest img)) [] b ≡ under (need_at q rest img) [] b
need-past p q m rest img b n = go (eqb q p) n
  where
    go : (c : Bool) → T (not (c || nest_at q rest)) → under (pick c m (need_at q rest img)) [] b ≡ under (need_at q rest img) [] b
    go true n = absurd n
    go false n = refl

nest-past : (p q : ℕ) (rest : Refs) → T (not (eqb q p || nest_at q rest)) → T (not (nest_at q rest))
nest-past p q rest n = go (eqb q p) n
  where
    go : (c : Bool) → T (not (c || nest_at q rest)) → T (not (nest_at q rest))
    go true n = absurd n
    go false n = n

pub read-slot : (t : List ℕ) (a : ℕ) (img : List ℕ) (rs : Refs) (q : ℕ) → T (not (nest_at q rs))
    → slot_at q (read_slots t a img rs) ≡ under (need_at q rs img) [] (part t (num t (a + q) 4) (num t (a + q + 4) 2))
unfolding slot_at read_slots
read-slot t a img none q n = refl
read-slot t a img (plain p need content rest) q n = go (eqb q p) refl (read-slot t a img rest q n)
  where
    go : (c : Bool) → eqb q p ≡ c → slot_at q (read_slots t a img rest) ≡ under (need_at q rest img) [] (part t (num t (a + q) 4) (num t (a + q + 4) 2))
        → pick c (under (need img) [] (part t (num t (a + p) 4) (num t (a + p + 4) 2))) (slot_at q (read_slots t a img rest))
        ≡ under (pick c (need img) (need_at q rest img)) [] (part t (num t (a + q) 4) (num t (a + q + 4) 2))
    go true e z = ap (λ (r : ℕ). under (need img) [] (part t (num t (a + r) 4) (num t (a + r + 4) 2))) (sym (eqb→eq q p (rw e tt)))
    go false e z = z
read-slot t a img (nest p need shape own rest) q n =
    let off : ℕ = num t (a + p) 4 in
    read_past p need shape (image shape.keep (drop off t)) (read_slots t off (image shape.keep (drop off t)) own) (read_slots t a img rest) q (need img) (eqb (num t (a + p + 4) 2) 0)
    ∙ read-slot t a img rest q (nest-past p q rest n)
    ∙ sym (need-past p q (need img) rest img (part t (num t (a + q) 4) (num t (a + q + 4) 2)) n)

pub told-slot : {rs : Refs} (n : ℕ) (img : List ℕ) (ss : Slots rs) (q : ℕ) → T (not (nest_at q rs))
    → slot_at q (told_slots n img ss) ≡ under (need_at q rs img) [] (ended (content_at q rs) (slot_at q ss))
unfolding slot_at told_slots
told-slot n img nil q k = refl
told-slot n img (bytes {p = p} {need = need} {content = content} {rest = rest} b ss) q k = go (eqb q p) (told-slot n img ss q k)
  where
    go : (c : Bool) → slot_at q (told_slots n img ss) ≡ under (need_at q rest img) [] (ended (content_at q rest) (slot_at q ss))
        → pick c (under (need img) [] (ended content b)) (slot_at q (told_slots n img ss))
        ≡ under (pick c (need img) (need_at q rest img)) [] (ended (pick c content (content_at q rest)) (pick c b (slot_at q ss)))
    go true z = refl
    go false z = z
told-slot n img (gone {p = p} {need = need} {rest = rest} ss) q k =
    told-slot n img ss q (nest-past p q rest k) ∙ sym (need-past p q (need img) rest img (ended (content_at q rest) (slot_at q ss)) k)
told-slot n img (rec {p = p} {need = need} {shape = shape} {rest = rest} x os ss) q k =
    told-past p need shape _ _ (told_slots n img ss) q (need img)
    ∙ told-slot n img ss q (nest-past p q rest k)
    ∙ sym (need-past p q (need img) rest img (ended (content_at q rest) (slot_at q ss)) k)

-- of what was told, what is not ignored comes back
pub told_back : {rs : Refs} (n : ℕ) (img : List ℕ) (ss : Slots rs) (q : ℕ) → T (not (nest_at q rs))
    → bare (content_at q rs) (slot_at q (told_slots n img ss)) ≡ under (need_at q rs img) [] (slot_at q ss)
told_back {rs} n img ss q k = ap (bare (content_at q rs)) (told-slot n img ss q k) ∙ go (need_at q rs img) (content_at q rs)
  where
    go : (m : Need) (c : Content) → bare c (under m [] (ended c (slot_at q ss))) ≡ under m [] (slot_at q ss)
    go Ignored anything = refl
    go Ignored positions = refl
    go Ignored text = refl
    go Optional c = bare-ended c (slot_at q ss)
    go Required c = bare-ended c (slot_at q ss)

-- ---- references that pass

pub rule-passes : (heap : Region) (e : Env) (t : List ℕ) (a : ℕ) (img : List ℕ) (rs : Refs) (q : ℕ) → T (not (nest_at q rs)) → refs_rule heap e t a img rs ≡ 0
    → plain_rule heap (need_at q rs img) (content_at q rs) e t (a + q) ≡ 0
unfolding refs_rule
rule-passes heap e t a img none q n z = refl
rule-passes heap e t a img (plain p need content rest) q n z =
    let u = first-of (plain_rule heap (need img) content e t (a + p)) _ z in
    go (eqb q p) refl u.0 (rule-passes heap e t a img rest q n u.1)
  where
    go : (c : Bool) → eqb q p ≡ c → plain_rule heap (need img) content e t (a + p) ≡ 0 → plain_rule heap (need_at q rest img) (content_at q rest) e t (a + q) ≡ 0
        → plain_rule heap (pick c (need img) (need_at q rest img)) (pick c content (content_at q rest)) e t (a + q) ≡ 0
    go true f x y = ap (λ (r : ℕ). plain_rule heap (need img) content e t (a + r)) (eqb→eq q p (rw f tt)) ∙ x
    go false f x y = y
rule-passes heap e t a img (nest p need shape own rest) q n z =
    go (eqb q p) n (rule-passes heap e t a img rest q (nest-past p q rest n)
    (first-of (nest_rule heap (need img) shape e img t (a + p) (refs_rule heap e t (num t (a + p) 4) (image shape.keep (drop (num t (a + p) 4) t)) own)) (refs_rule heap e t a img rest) z).1)
  where
    go : (c : Bool) → T (not (c || nest_at q rest)) → plain_rule heap (need_at q rest img) (content_at q rest) e t (a + q) ≡ 0
        → plain_rule heap (pick c (need img) (need_at q rest img)) (content_at q rest) e t (a + q) ≡ 0
    go true n y = absurd n
    go false n y = y

-- so the object read obeys the rule of what it holds
pub slot-rule : (heap : Region) (e : Env) (t : List ℕ) (a : ℕ) (img : List ℕ) (rs : Refs) (q : ℕ) → T (not (nest_at q rs)) → refs_rule heap e t a img rs ≡ 0
    → ruled (content_at q rs) e (slot_at q (read_slots t a img rs)) ≡ 0
slot-rule heap e t a img rs q n z =
    ap (ruled (content_at q rs) e) (read-slot t a img rs q n)
    ∙ go (need_at q rs img) (first-of (ref_rule heap (need_at q rs img) (num t (a + q) 4) (num t (a + q + 4) 2)) _ (rule-passes heap e t a img rs q n z)).1
  where
    go : (m : Need) → under m 0 (ruled (content_at q rs) e (part t (num t (a + q) 4) (num t (a + q + 4) 2))) ≡ 0
        → ruled (content_at q rs) e (under m [] (part t (num t (a + q) 4) (num t (a + q + 4) 2))) ≡ 0
    go Ignored y = refl
    go Optional y = y
    go Required y = y

-- ---- the object call

cut-take : (n : ℕ) (x : List ℕ) → n ≤ length x → take (n - 1) x ≡ cut (take n x)
cut-take zero x k = refl
cut-take (suc n) [] k = absurd (omega arith)
cut-take (suc zero) (b ∷ bs) k = refl
cut-take (suc (suc n)) (b ∷ []) k = absurd (omega arith)
cut-take (suc (suc n)) (b ∷ c ∷ cs) k =
    let e : suc (suc n) - 1 ≡ suc n = omega arith in
    let f : suc n - 1 ≡ n = omega arith in
    ap (λ (m : ℕ). take m (b ∷ c ∷ cs)) e ∙ ap (λ (y : List ℕ). b ∷ y) (ap (λ (m : ℕ). take m (c ∷ cs)) (sym f) ∙ cut-take (suc n) (c ∷ cs) (omega arith))

-- a part that lies in the table, as it is handed back
handed-part : (t : List ℕ) (content : Content) (x : Place) → x.at + x.len ≤ length t → part t (handed content x).at (handed content x).len ≡ bare content (part t x.at x.len)
handed-part t anything x k = refl
handed-part t positions x k = refl
handed-part t text x k = cut-take x.len (drop x.at t) (simp (length-drop) (omega arith))

-- the record at a of kind l, its reference q to an object
module _ (t : List ℕ) (l : Layout) (a q : ℕ) (h : T (has_plain q l.refs)) (n : T (not (nest_at q l.refs))) where
  abbrev slots : Slots l.refs
  slots = read_slots t a (image l.shape.keep (drop a t)) l.refs

  abbrev whole : Place
  whole = whole_at t q (seat l a true)

  abbrev given : Place
  given = place_at t q (seat l a true)

  -- the whole object is the slot
  pub whole-read : part t whole.at whole.len ≡ slot_at q slots
  whole-read = go (has_plain q l.refs) h (need_at q l.refs (image l.shape.keep (drop a t))) ∙ sym (read-slot t a (image l.shape.keep (drop a t)) l.refs q n)
    where
      r : ℕ
      r = a + q

      named : (c : Bool) → eqb (num t (r + 4) 2) 0 ≡ c
          → let x = pick c (no_place done) (record { answer = done; present = true; at = num t r 4; len = num t (r + 4) 2 }) in part t x.at x.len ≡ part t (num t r 4) (num t (r + 4) 2)
      named true e = ap (λ (k : ℕ). part t (num t r 4) k) (sym (eqb→eq (num t (r + 4) 2) 0 (rw e tt)))
      named false e = refl

      go : (c : Bool) → T c → (m : Need)
          → let x = pick c (under m (no_place done) (ref_place t r)) (no_place (answer 16 0 0)) in part t x.at x.len ≡ under m [] (part t (num t r 4) (num t (r + 4) 2))
      go false k m = absurd k
      go true k Ignored = refl
      go true k Optional = named (eqb (num t (r + 4) 2) 0) refl
      go true k Required = named (eqb (num t (r + 4) 2) 0) refl

  -- what is handed back is the slot without its terminator
  pub place_read : whole.at + whole.len ≤ length t → part t given.at given.len ≡ bare (content_at q l.refs) (slot_at q slots)
  place_read k = handed-part t (content_at q l.refs) whole k ∙ ap (bare (content_at q l.refs)) whole-read

  -- its record's references pass, and the heap lies in the table unless it is empty
  module _ (heap : Region) (e : Env) (k : 0 < heap.len → heap.at + heap.len ≤ length t) (z : refs_rule heap e t a (image l.shape.keep (drop a t)) l.refs ≡ 0) where
    reach-room : (off len : ℕ) → T (reaches heap off len) → off + len ≤ length t
    reach-room off len r =
        let r₁ = and_yes (not (eqb off 0)) _ r in
        let r₂ = and_yes (not (eqb len 0)) _ r₁.1 in
        let r₃ = and_yes (leb heap.at off) _ r₂.1 in
        let x : heap.at ≤ off = leb→le heap.at off r₃.0 in
        let y : off + len ≤ heap.at + heap.len = leb→le (off + len) (heap.at + heap.len) r₃.1 in
        let c = eqb_no {a = len} {b = 0} r₂.0 in
        let d : heap.at + heap.len ≤ length t = k (omega arith) in
        omega arith

    -- the object lies in the table, and has bytes exactly where it is present
    pub record Lies (x : Place) : Type 0 where
      pub room : x.at + x.len ≤ length t
      pub some : T x.present → 0 < x.len
      pub none : T (not x.present) → x.len ≡ 0

    lies : Lies whole
    lies =
        go (has_plain q l.refs) (need_at q l.refs (image l.shape.keep (drop a t)))
        (first-of (ref_rule heap (need_at q l.refs (image l.shape.keep (drop a t))) (num t (a + q) 4) (num t (a + q + 4) 2)) _
        (rule-passes heap e t a (image l.shape.keep (drop a t)) l.refs q n z)).0
      where
        off : ℕ
        off = num t (a + q) 4

        len : ℕ
        len = num t (a + q + 4) 2

        nothing : (r : Answer) → Lies (no_place r)
        nothing r = record { room = omega arith; some = λ y. absurd y; none = λ y. refl }

        there : (c : Bool) → eqb len 0 ≡ c → (c ≡ false → T (reaches heap off len)) → Lies (pick c (no_place done) (record { answer = done; present = true; at = off; len = len }))
        there true f y = nothing done
        there false f y = record { room = reach-room off len (y refl); some = λ x. omega (arith, eqb-false len 0 f); none = λ x. absurd x }

        optional : (c d : Bool) → pick {X = ℕ} (c && d) 0 (pick (reaches heap off len) 0 11) ≡ 0 → d ≡ false → T (reaches heap off len)
        optional true true y f = absurd (subst (λ (v : Bool). T v) f tt)
        optional true false y f = pick-of (reaches heap off len) 11 (lit< tt) y
        optional false d y f = pick-of (reaches heap off len) 11 (lit< tt) y

        go : (c : Bool) (m : Need) → ref_rule heap m off len ≡ 0 → Lies (pick c (under m (no_place done) (ref_place t (a + q))) (no_place (answer 16 0 0)))
        go false m y = nothing (answer 16 0 0)
        go true Ignored y = nothing done
        go true Optional y = there (eqb len 0) refl (λ f. optional (eqb off 0) (eqb len 0) y f)
        go true Required y = there (eqb len 0) refl (λ f. pick-of (reaches heap off len) 11 (lit< tt) y)

    -- the bytes handed back
    abbrev object : List ℕ
    object = part t given.at given.len

    -- they are the slot without its terminator
    pub object-read : object ≡ bare (content_at q l.refs) (slot_at q slots)
    object-read = place_read lies.room

    -- what is handed back is present exactly where the slot is not empty: an empty text is present
    handed-present : (content : Content) (x : Place) → (handed content x).present ≡ x.present
    handed-present anything x = refl
    handed-present positions x = refl
    handed-present text x = refl

    same-present : given.present ≡ whole.present
    same-present = handed-present (content_at q l.refs) whole

    pub present-slot : T given.present → slot_at q slots ≡ [] → ⊥
    present-slot y f =
        let r : whole.at + whole.len ≤ length t = lies.room in
        let s : 0 < whole.len = lies.some (subst T same-present y) in
        let w : length (part t whole.at whole.len) ≡ whole.len = simp (length-take, length-drop) (omega arith) in
        let v : length (part t whole.at whole.len) ≡ 0 = ap length (whole-read ∙ f) in
        omega arith

    pub absent-slot : T (not given.present) → slot_at q slots ≡ []
    absent-slot y = sym whole-read ∙ ap (part t whole.at) (lies.none (subst (λ (c : Bool). T (not c)) same-present y))

    -- a present text that is read has no zero byte, and with one behind it is the object
    pub text-read : content_at q l.refs ≡ text → T given.present → T (no_zero object) × (object ++ (0 ∷ []) ≡ slot_at q slots)
    text-read c y =
        let r : ruled (content_at q l.refs) e (slot_at q slots) ≡ 0 = slot-rule heap e t a (image l.shape.keep (drop a t)) l.refs q n z in
        let u : TextSlot (slot_at q slots) = text-slot e (slot_at q slots) (present-slot y) (ap (λ (x : Content). ruled x e (slot_at q slots)) (sym c) ∙ r) in
        let v : object ≡ cut (slot_at q slots) = object-read ∙ ap (λ (x : Content). bare x (slot_at q slots)) c in
        (rw v u.clean, rw v u.whole)
