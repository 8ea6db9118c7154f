use mathlib.Core.Path.{◌≡◌, sym, ◌∙◌}
use Rattle.changes_records.proofs.TextLaws.{like-text, one-outcome, unlike-text}
use Rattle.changes_records.proofs.records.field_text.Goals as goal

pub returns-then-same : goal.returns-then-same
returns-then-same c =
    let a = c.args in
    let e : a.one.now ≡ a.other.now = c.same.ensures.0 c.if-same.true in
    c.new.ensures ∙ sym (like-text a.one.now a.other.now _ e)

pub returns : goal.returns
returns c =
    let a = c.args in
    c.field_line.ensures ∙ sym (unlike-text a.one.now a.other.now _ (λ e. one-outcome (c.same.ensures.1 e) c.if-same.false))
