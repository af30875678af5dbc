-- The words as clap goes through them give what the grammar says.
use Rattle.std.proofs.Common.{◌≡◌, ℕ, Bool, true, false, List, [], ◌∷◌, ◌++◌, Option, Some, None, refl, sym, ◌∙◌, ap, ◌||◌, if◌then◌else◌, subst}
use Rattle.clap.specs.Lexer.{long_of, is_short_word}
use Rattle.hags_words.specs.Options.{Argument, operand, kinds, node, inc, turns, key, silence, mend, gap, Values, is_given, is_same, option_named, Given, none_given, with_value, with_operand, with_plain, with_option, with_word, after_word, is_end, unless_waiting, given_from, given_of, has_short, ◌>>=◌}
use Rattle.hags_words.proofs.Pending.{Pending, none_pending, closed, added, pending_operand, pending_plain, pending_option, pending_word, after_pending, pending_from, pending_of}
use Rattle.hags_words.proofs.ClapLaws.{Last, state, IsOption, is_option, short_here, short_after, first_is_free, rest_is_free, EndedIs, step_ended}

or_true : (b : Bool) → (b || true) ≡ true
or_true true = refl
or_true false = refl

or_false : (b : Bool) → (b || false) ≡ b
or_false true = refl
or_false false = refl

or_assoc : (a b c : Bool) → (a || (b || c)) ≡ ((a || b) || c)
or_assoc true b c = refl
or_assoc false b c = refl

given_append : (a b : Argument) (v : List ℕ) (values : Values) → is_given a (values ++ (b, v) ∷ []) ≡ (is_given a values || is_same b a)
given_append a b v [] = or_false (is_same b a)
given_append a b v (p ∷ ps) = ap (λ x. is_same p.0 a || x) (given_append a b v ps) ∙ or_assoc (is_same p.0 a) (is_given a ps) (is_same b a)

-- ---- what was noted, as the grammar knows it

abbrev settled_at : Option Values → Bool → Option Given
settled_at None ended = None
settled_at (Some values) ended = Some (record { values = values; waits = None; ended = ended })

-- what clap notes later is given already
abbrev given_at : Values → Last → Bool → Option Given
given_at values (Some (a, None)) ended = Some (record { values = values; waits = Some a; ended = ended })
given_at values last ended = settled_at (closed values last) ended

value_by : (b : Bool) (values : Values) (waits : Option Argument) (ended : Bool) (a : Argument) (v : List ℕ)
    → let g : Given = record { values = values; waits = waits; ended = ended } in
    (if b then None else Some (record g { values = values ++ (a, v) ∷ []; waits = None })) ≡ settled_at (if b then None else Some (values ++ (a, v) ∷ [])) ended
value_by true values waits ended a v = refl
value_by false values waits ended a v = refl

value_is : (values : Values) (waits : Option Argument) (ended : Bool) (a : Argument) (v : List ℕ)
    → with_value (record { values = values; waits = waits; ended = ended }) a v ≡ settled_at (added a v values) ended
value_is values waits ended a v = value_by (is_given a values) values waits ended a v

-- an operand was taken exactly where it is given
abbrev TakenIs : Bool → Values → Last → Type 0
TakenIs taken values None = taken ≡ is_given operand values
TakenIs taken values (Some p) = taken ≡ (is_given operand values || is_same p.0 operand)

abbrev TakenOf : Bool → Option Values → Type 0
TakenOf taken None = Unit {0}
TakenOf taken (Some values) = taken ≡ is_given operand values

taken_by : (b taken : Bool) (values : Values) (a : Argument) (v : List ℕ) → taken ≡ (is_given operand values || is_same a operand) → TakenOf taken (if b then None else Some (values ++ (a, v) ∷ []))
taken_by true taken values a v e = tt
taken_by false taken values a v e = e ∙ sym (given_append operand a v values)

closed_taken : (values : Values) (last : Last) (taken : Bool) → TakenIs taken values last → TakenOf taken (closed values last)
closed_taken values None taken e = e
closed_taken values (Some (a, None)) taken e = tt
closed_taken values (Some (a, Some v)) taken e = taken_by (is_given a values) taken values a v e

-- ---- one word

abbrev Same : Option Pending → Option Given → Type 0
Same None s = s ≡ None
Same (Some p) s = (s ≡ given_at p.values p.last p.ended) × TakenIs p.taken p.values p.last

abbrev settled_operand : Option Values → Bool → List ℕ → Bool → Option Pending
settled_operand c ended word true = None
settled_operand c ended word false = c >>= λ values. Some (state values (Some (operand, Some word)) ended true)

operand_is : (values : Values) (last : Last) (ended taken : Bool) (word : List ℕ) (b : Bool) → pending_operand (state values last ended taken) word b ≡ settled_operand (closed values last) ended word b
operand_is values last ended taken word true = refl
operand_is values last ended taken word false = refl

none_if : {A : Type 0} (b : Bool) (x : Option A) → true ≡ b → (if b then None else x) ≡ None
none_if true x e = refl
none_if false x e = absurd cc

operand_same : (c : Option Values) (ended taken : Bool) (word : List ℕ) → TakenOf taken c → Same (settled_operand c ended word taken) (settled_at c ended >>= λ g. with_value g operand word)
operand_same None ended true word e = refl
operand_same None ended false word e = refl
operand_same (Some values) ended true word e = none_if (is_given operand values) _ e
operand_same (Some values) ended false word e = (value_is values None ended operand word, sym (or_true (is_given operand values)))

-- where nothing waits, behind `--` and before it
ended_operand : (c : Option Values) (word : List ℕ) → (settled_at c true >>= λ g. with_operand g g.waits word) ≡ (settled_at c true >>= λ g. with_value g operand word)
ended_operand None word = refl
ended_operand (Some values) word = refl

plain_operand : (c : Option Values) (word : List ℕ) → (settled_at c false >>= λ g. with_plain g g.waits word) ≡ (settled_at c false >>= λ g. with_value g operand word)
plain_operand None word = refl
plain_operand (Some values) word = refl

end_same : (c : Option Values) → (settled_at c false >>= λ g. Some (record g { ended = true })) ≡ settled_at c true
end_same None = refl
end_same (Some values) = refl

no_operand : (a : Argument) → IsOption (Some a) → is_same a operand ≡ false
no_operand operand is = absurd cc
no_operand kinds is = refl
no_operand node is = refl
no_operand inc is = refl
no_operand turns is = refl
no_operand key is = refl
no_operand silence is = refl
no_operand mend is = refl
no_operand gap is = refl

not_taken : (a : Argument) (taken b : Bool) → IsOption (Some a) → taken ≡ b → taken ≡ (b || is_same a operand)
not_taken a taken b is e = e ∙ (sym (or_false b) ∙ ap (λ x. b || x) (sym (no_operand a is)))

given_same : (b taken : Bool) (values : Values) (a : Argument) (v : List ℕ) → IsOption (Some a) → taken ≡ is_given operand values
    → Same ((if b then None else Some (values ++ (a, v) ∷ [])) >>= λ all. Some (state all None false taken)) (settled_at (if b then None else Some (values ++ (a, v) ∷ [])) false)
given_same true taken values a v is e = refl
given_same false taken values a v is e = (refl, not_taken a taken (is_given operand values) is e ∙ sym (given_append operand a v values))

abbrev pending_settled : Option Values → Bool → Option Argument → Option (List ℕ) → Option Pending
pending_settled c taken None v = None
pending_settled c taken (Some a) None = c >>= λ values. Some (state values (Some (a, None)) false taken)
pending_settled c taken (Some a) (Some v) = c >>= λ values. added a v values >>= λ all. Some (state all None false taken)

option_is : (values : Values) (last : Last) (taken : Bool) (o : Option Argument) (v : Option (List ℕ)) → pending_option (state values last false taken) o v ≡ pending_settled (closed values last) taken o v
option_is values last taken None v = refl
option_is values last taken (Some a) None = refl
option_is values last taken (Some a) (Some v) = refl

option_same : (c : Option Values) (taken : Bool) (o : Option Argument) (v : Option (List ℕ)) → IsOption o → TakenOf taken c
    → Same (pending_settled c taken o v) (settled_at c false >>= λ g. with_option g g.waits o v)
option_same None taken None v is e = refl
option_same None taken (Some a) None is e = refl
option_same None taken (Some a) (Some v) is e = refl
option_same (Some values) taken None v is e = refl
option_same (Some values) taken (Some a) None is e = (refl, not_taken a taken (is_given operand values) is e)
option_same (Some values) taken (Some a) (Some v) is e =
    subst (λ s. Same (added a v values >>= λ all. Some (state all None false taken)) s) (sym (value_is values None false a v)) (given_same (is_given a values) taken values a v is e)

abbrev word_after : Given → List ℕ → Bool → Bool → Option (List ℕ × Option (List ℕ)) → Option Given
word_after g word t short l = if g.ended then with_operand g g.waits word else (if t then Some (record g { ended = true }) else (if short then None else with_word g word l))

abbrev pending_after : Pending → List ℕ → Bool → Option (List ℕ × Option (List ℕ)) → Option Pending
pending_after p word t l = if p.ended then pending_operand p word p.taken else (if t then Some (record p { ended = true }) else pending_word p word l)

waiting_option : (values : Values) (a : Argument) (taken : Bool) (o : Option Argument) (v : Option (List ℕ)) → pending_option (state values (Some (a, None)) false taken) o v ≡ None
waiting_option values a taken None v = refl
waiting_option values a taken (Some b) None = refl
waiting_option values a taken (Some b) (Some v) = refl

none_same : (r : Option Pending) → r ≡ None → Same r None
none_same r e = subst (λ x. Same x None) (sym e) refl

waiting_operand : (values : Values) (a : Argument) (ended taken : Bool) (word : List ℕ) (b : Bool) → Same (pending_operand (state values (Some (a, None)) ended taken) word b) None
waiting_operand values a ended taken word true = refl
waiting_operand values a ended taken word false = refl

-- while an option waits for its value
waiting_same : (values : Values) (a : Argument) (ended taken : Bool) (word : List ℕ) (t short : Bool) (l : Option (List ℕ × Option (List ℕ)))
    → TakenIs taken values (Some (a, None)) → short_here ended t short ≡ false
    → Same (pending_after (state values (Some (a, None)) ended taken) word t l) (given_at values (Some (a, None)) ended >>= λ g. word_after g word t short l)
waiting_same values a true taken word t short l e p = waiting_operand values a true taken word taken
waiting_same values a false taken word true short l e p = (refl, e)
waiting_same values a false taken word false true l e p = absurd cc
waiting_same values a false taken word false false None e p = (value_is values (Some a) false a word, e)
waiting_same values a false taken word false false (Some q) e p = none_same _ (waiting_option values a taken (option_named q.0) q.1)

-- at each other time: what clap does with the word, and what the grammar says
settled_same : (values : Values) (last : Last) (ended taken : Bool) (word : List ℕ) (t short : Bool) (l : Option (List ℕ × Option (List ℕ)))
    → ((e : Bool) → given_at values last e ≡ settled_at (closed values last) e)
    → pending_plain (state values last false taken) last word ≡ pending_operand (state values last false taken) word taken
    → TakenIs taken values last → short_here ended t short ≡ false
    → Same (pending_after (state values last ended taken) word t l) (settled_at (closed values last) ended >>= λ g. word_after g word t short l)
settled_same values last true taken word t short l at plain e p =
    subst (λ r. Same r (settled_at (closed values last) true >>= λ g. word_after g word t short l)) (sym (operand_is values last true taken word taken))
    (subst (λ s. Same (settled_operand (closed values last) true word taken) s) (sym (ended_after (closed values last) word t short l)) (operand_same (closed values last) true taken word (closed_taken values last taken e)))
  where
    ended_after : (c : Option Values) (word : List ℕ) (t short : Bool) (l : Option (List ℕ × Option (List ℕ))) → (settled_at c true >>= λ g. word_after g word t short l) ≡ (settled_at c true >>= λ g. with_value g operand word)
    ended_after None word t short l = refl
    ended_after (Some values) word t short l = refl
settled_same values last false taken word true short l at plain e p = (end_after (closed values last) word short l ∙ sym (at true), e)
  where
    end_after : (c : Option Values) (word : List ℕ) (short : Bool) (l : Option (List ℕ × Option (List ℕ))) → (settled_at c false >>= λ g. word_after g word true short l) ≡ settled_at c true
    end_after None word short l = refl
    end_after (Some values) word short l = refl
settled_same values last false taken word false true l at plain e p = absurd cc
settled_same values last false taken word false false None at plain e p =
    subst (λ r. Same r (settled_at (closed values last) false >>= λ g. word_after g word false false None)) (sym (plain ∙ operand_is values last false taken word taken))
    (subst (λ s. Same (settled_operand (closed values last) false word taken) s) (sym (plain_after (closed values last) word)) (operand_same (closed values last) false taken word (closed_taken values last taken e)))
  where
    plain_after : (c : Option Values) (word : List ℕ) → (settled_at c false >>= λ g. word_after g word false false None) ≡ (settled_at c false >>= λ g. with_value g operand word)
    plain_after None word = refl
    plain_after (Some values) word = refl
settled_same values last false taken word false false (Some q) at plain e p =
    subst (λ r. Same r (settled_at (closed values last) false >>= λ g. word_after g word false false (Some q))) (sym (option_is values last taken (option_named q.0) q.1))
    (subst (λ s. Same (pending_settled (closed values last) taken (option_named q.0) q.1) s) (sym (option_after (closed values last) word q)) (option_same (closed values last) taken (option_named q.0) q.1 (is_option q.0) (closed_taken values last taken e)))
  where
    option_after : (c : Option Values) (word : List ℕ) (q : List ℕ × Option (List ℕ)) → (settled_at c false >>= λ g. word_after g word false false (Some q)) ≡ (settled_at c false >>= λ g. with_option g g.waits (option_named q.0) q.1)
    option_after None word q = refl
    option_after (Some values) word q = refl

word_same : (values : Values) (last : Last) (ended taken : Bool) (word : List ℕ) (t short : Bool) (l : Option (List ℕ × Option (List ℕ)))
    → TakenIs taken values last → short_here ended t short ≡ false
    → Same (pending_after (state values last ended taken) word t l) (given_at values last ended >>= λ g. word_after g word t short l)
word_same values None ended taken word t short l e p = settled_same values None ended taken word t short l (λ x. refl) refl e p
word_same values (Some (a, None)) ended taken word t short l e p = waiting_same values a ended taken word t short l e p
word_same values (Some (a, Some v)) ended taken word t short l e p = settled_same values (Some (a, Some v)) ended taken word t short l (λ x. refl) refl e p

-- ---- all words

unless_by : (b : Bool) (values : Values) (ended : Bool) → (if b then None else Some values) ≡ (settled_at (if b then None else Some values) ended >>= λ g. unless_waiting g.values g.waits)
unless_by true values ended = refl
unless_by false values ended = refl

end_is : (values : Values) (last : Last) (ended : Bool) → closed values last ≡ (given_at values last ended >>= λ g. unless_waiting g.values g.waits)
end_is values None ended = refl
end_is values (Some (a, None)) ended = refl
end_is values (Some (a, Some v)) ended = unless_by (is_given a values) (values ++ (a, v) ∷ []) ended

bind_twice : {A B C : Type 0} (o : Option A) (f : A → Option B) (h : B → Option C) → ((o >>= f) >>= h) ≡ (o >>= λ a. f a >>= h)
bind_twice None f h = refl
bind_twice (Some a) f h = refl

goes_on : (words : List (List ℕ)) (ended : Bool) (r : Option Pending) (s : Option Given) → Same r s → EndedIs ended r
    → ((p : Pending) → p.ended ≡ ended → TakenIs p.taken p.values p.last → pending_from p words ≡ (given_at p.values p.last p.ended >>= λ g. given_from g words))
    → (r >>= λ p. pending_from p words) ≡ (s >>= λ g. given_from g words)
unfolding EndedIs
goes_on words ended None s same e next = ap (λ x. x >>= λ g. given_from g words) (sym same)
goes_on words ended (Some p) s same e next = next p e same.1 ∙ ap (λ x. x >>= λ g. given_from g words) (sym same.0)

same_from : (words : List (List ℕ)) (p : Pending) → TakenIs p.taken p.values p.last → short_after p.ended words ≡ false → pending_from p words ≡ (given_at p.values p.last p.ended >>= λ g. given_from g words)
unfolding pending_from given_from
same_from [] p e free = end_is p.values p.last p.ended
same_from (word ∷ words) p e free =
    goes_on words (p.ended || is_end word) (after_pending p word) (given_at p.values p.last p.ended >>= λ g. after_word g word)
    (word_same p.values p.last p.ended p.taken word (is_end word) (is_short_word word) (long_of word) e (first_is_free p.ended word words free))
    (step_ended p.values p.last p.ended p.taken word (is_end word))
    (λ after same taken. same_from words after taken (rw same (rest_is_free p.ended word words free)))
    ∙ bind_twice (given_at p.values p.last p.ended) (λ g. after_word g word) (λ g. given_from g words)

-- where no option has one letter, clap's way through the words gives what they give
pub pending_is_given : (words : List (List ℕ)) → has_short words ≡ false → pending_of words ≡ given_of words
unfolding given_of short_after
pending_is_given words free = same_from words none_pending refl free

-- ---- options of one letter

abbrev NotEnded : Option Given → Type 0
NotEnded None = Unit {0}
NotEnded (Some g) = g.ended ≡ false

value_not_ended : (g : Given) (b : Bool) (values : Values) → g.ended ≡ false → NotEnded (if b then None else Some (record g { values = values; waits = None }))
value_not_ended g true values e = tt
value_not_ended g false values e = e

plain_not_ended : (g : Given) (waits : Option Argument) (word : List ℕ) → g.ended ≡ false → NotEnded (with_plain g waits word)
plain_not_ended g None word e = value_not_ended g (is_given operand g.values) (g.values ++ (operand, word) ∷ []) e
plain_not_ended g (Some a) word e = value_not_ended g (is_given a g.values) (g.values ++ (a, word) ∷ []) e

option_not_ended : (g : Given) (waits o : Option Argument) (v : Option (List ℕ)) → g.ended ≡ false → NotEnded (with_option g waits o v)
option_not_ended g (Some a) o v e = tt
option_not_ended g None None v e = tt
option_not_ended g None (Some a) None e = e
option_not_ended g None (Some a) (Some v) e = value_not_ended g (is_given a g.values) (g.values ++ (a, v) ∷ []) e

word_not_ended : (g : Given) (word : List ℕ) (l : Option (List ℕ × Option (List ℕ))) → g.ended ≡ false → NotEnded (with_word g word l)
word_not_ended g word None e = plain_not_ended g g.waits word e
word_not_ended g word (Some q) e = option_not_ended g g.waits (option_named q.0) q.1 e

none_on : (words : List (List ℕ)) (r : Option Given) → NotEnded r → ((g : Given) → g.ended ≡ false → given_from g words ≡ None) → (r >>= λ g. given_from g words) ≡ None
none_on words None e next = refl
none_on words (Some g) e next = next g e

short_by : (words : List (List ℕ)) (g : Given) (word : List ℕ) (ended t short : Bool) → ended ≡ false → g.ended ≡ false → (if t then false else (short || has_short words)) ≡ true
    → ((g : Given) → g.ended ≡ false → has_short words ≡ true → given_from g words ≡ None)
    → ((if ended then with_operand g g.waits word else (if t then Some (record g { ended = true }) else (if short then None else with_word g word (long_of word)))) >>= λ after. given_from after words) ≡ None
short_by words g word true t short n e h next = absurd cc
short_by words g word false true short n e h next = absurd cc
short_by words g word false false true n e h next = refl
short_by words g word false false false n e h next = none_on words (with_word g word (long_of word)) (word_not_ended g word (long_of word) e) (λ g e. next g e h)

short_from : (words : List (List ℕ)) (g : Given) → g.ended ≡ false → has_short words ≡ true → given_from g words ≡ None
unfolding given_from
short_from [] g e h = absurd cc
short_from (word ∷ words) g e h = short_by words g word g.ended (is_end word) (is_short_word word) e e h (λ after n more. short_from words after n more)

-- no command has an option of one letter
pub none_of_short : (words : List (List ℕ)) → has_short words ≡ true → given_of words ≡ None
unfolding given_of
none_of_short words h = short_from words none_given refl h
