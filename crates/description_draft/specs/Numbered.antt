-- What is wrong with a description by the numbers that stand for it. Definitions only.
use Rattle.std.specs.Prelude.{List, [], ◌∷◌, ℕ, get_or}
use Rattle.description_words.specs.declared.Form.TheVariants.{Number, Text, Digits, Interface, Function, Address, List as list_form}
use Rattle.description_draft.specs.declared.wrongs.Wrong.{Wrong}
use Rattle.description_draft.specs.declared.wrongs.Wrong.TheVariants.{Value, NoField, NoValue, NoSection, BeforeSections, ToldTwice, ToldUnused, NotCounted}
use Rattle.description_draft.specs.declared.wrongs.Wrong.TheVariants.{OutOfTurn, TooMany, Refused, Incomplete}

-- from 0 on; the answer of a refusal is not told by its number
abbrev pub wrongs : List Wrong
wrongs =
    Value list_form ∷ Value Number ∷ Value Text ∷ Value Digits ∷ Value Interface ∷ Value Function ∷ Value Address ∷ Value list_form
    ∷ NoField ∷ NoValue ∷ NoSection ∷ BeforeSections ∷ ToldTwice ∷ ToldUnused ∷ NotCounted ∷ OutOfTurn ∷ TooMany
    ∷ Refused (record { number = 0; kind = 0; position = 0 })
    ∷ Incomplete
    ∷ []

-- any other number is that of a list
unfoldable pub wrong_of : ℕ → Wrong
wrong_of n = get_or wrongs n (Value list_form)
