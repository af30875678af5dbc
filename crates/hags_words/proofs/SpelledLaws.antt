-- Words as one writes them give what they say.
use Rattle.std.proofs.Common.{◌≡◌, ℕ, Bool, true, false, List, [], ◌∷◌, ◌++◌, Option, Some, None, refl, sym, ◌∙◌, ap, append-nil, append_assoc, if◌then◌else◌}
use Rattle.hags_words.specs.Options.{Argument, operand, kinds, node, inc, turns, key, silence, mend, gap, Values, is_given, Given, with_value, with_plain, after_word, given_from, given_of, ◌>>=◌}
use Rattle.hags_words.specs.Spelled.{Form, joined, apart, Use, use_words, IsPlain, IsUse, words_of, values_of, AreUses}

abbrev at : Values → Option Argument → Given
at values waits = record { values = values; waits = waits; ended = false }

value_by : (b : Bool) (g : Given) (f : Given → Option Values) → b ≡ false → ((if b then None else Some g) >>= f) ≡ f g
value_by true g f e = absurd cc
value_by false g f e = refl

value_step : (values : Values) (waits : Option Argument) (a : Argument) (value : List ℕ) (words : List (List ℕ)) → is_given a values ≡ false
    → (with_value (at values waits) a value >>= λ g. given_from g words) ≡ given_from (at (values ++ (a, value) ∷ []) None) words
value_step values waits a value words e = value_by (is_given a values) (at (values ++ (a, value) ∷ []) None) (λ g. given_from g words) e

plain_step : (values : Values) (waits : Option Argument) (value : List ℕ) → IsPlain value → after_word (at values waits) value ≡ with_plain (at values waits) waits value
plain_step values waits [] h = refl
plain_step values waits (x ∷ xs) h = rw h refl

-- an operand, and an option in two words
operand_step : (values : Values) (value : List ℕ) (words : List (List ℕ)) → is_given operand values ≡ false → IsPlain value
    → (after_word (at values None) value >>= λ g. given_from g words) ≡ given_from (at (values ++ (operand, value) ∷ []) None) words
operand_step values value words e h = ap (λ r. r >>= λ g. given_from g words) (plain_step values None value h) ∙ value_step values None operand value words e

waiting_step : (values : Values) (a : Argument) (value : List ℕ) (words : List (List ℕ)) → is_given a values ≡ false → IsPlain value
    → (after_word (at values (Some a)) value >>= λ g. given_from g words) ≡ given_from (at (values ++ (a, value) ∷ []) None) words
waiting_step values a value words e h = ap (λ r. r >>= λ g. given_from g words) (plain_step values (Some a) value h) ∙ value_step values (Some a) a value words e

use_step : (values : Values) (a : Argument) (form : Form) (value : List ℕ) (words : List (List ℕ)) → is_given a values ≡ false → IsUse a form value
    → given_from (at values None) (use_words a form value ++ words) ≡ given_from (at (values ++ (a, value) ∷ []) None) words
unfolding given_from
use_step values operand form value words e h = operand_step values value words e h
use_step values kinds joined value words e h = value_step values None kinds value words e
use_step values node joined value words e h = value_step values None node value words e
use_step values inc joined value words e h = value_step values None inc value words e
use_step values turns joined value words e h = value_step values None turns value words e
use_step values key joined value words e h = value_step values None key value words e
use_step values silence joined value words e h = value_step values None silence value words e
use_step values mend joined value words e h = value_step values None mend value words e
use_step values gap joined value words e h = value_step values None gap value words e
use_step values kinds apart value words e h = waiting_step values kinds value words e h
use_step values node apart value words e h = waiting_step values node value words e h
use_step values inc apart value words e h = waiting_step values inc value words e h
use_step values turns apart value words e h = waiting_step values turns value words e h
use_step values key apart value words e h = waiting_step values key value words e h
use_step values silence apart value words e h = waiting_step values silence value words e h
use_step values mend apart value words e h = waiting_step values mend value words e h
use_step values gap apart value words e h = waiting_step values gap value words e h

end_is : (values : Values) → given_from (at values None) [] ≡ Some values
unfolding given_from
end_is values = refl

uses_from : (uses : List Use) (values : Values) → AreUses values uses → given_from (at values None) (words_of uses) ≡ Some (values ++ values_of uses)
unfolding words_of AreUses
uses_from [] values h = end_is values ∙ ap (λ x. Some x) (sym (append-nil values))
uses_from (u ∷ us) values h =
    use_step values u.argument u.form u.value (words_of us) h.0 h.1
    ∙ (uses_from us (values ++ (u.argument, u.value) ∷ []) h.2 ∙ ap (λ x. Some x) (append_assoc values ((u.argument, u.value) ∷ []) (values_of us)))

-- uses in any order and form, each at most once, give just their values
pub spelled_is_given : (uses : List Use) → AreUses [] uses → given_of (words_of uses) ≡ Some (values_of uses)
unfolding given_of
spelled_is_given uses h = uses_from uses [] h
