-- What clap makes of words, one by one and at their end.
use Rattle.std.proofs.Common.{◌≡◌, ◌≢◌, ℕ, Bool, true, false, List, [], ◌∷◌, ◌++◌, map, codes, Option, Some, None, refl, sym, ◌∙◌, ap, ap₂, subst, append-nil, if◌then◌else◌, is_some, ◌||◌, IsSome, IfSome, IfOk, IfErr, Result, Ok, Err, inl, inr}
use Rattle.std.specs.Option.{option_map, option_map_or}
use Rattle.std.specs.Str.{bytes_eq}
use Rattle.std.specs.Prelude.{slice_get, option_and_then}
use Rattle.std.specs.List.{fold, find}
use Rattle.clap.specs.Matches.{first_value}
use Rattle.clap.proofs.WalkLemmas.{first_value-rows}
use Rattle.clap.specs.declared.parser.matches.Found.{Found}
use Rattle.clap.specs.Lexer.{long_of, short_of, is_short_word}
use Rattle.clap.specs.Simple.{App, Shape, matches_of, is_simple, built, entered, filled, with_index}
use Rattle.clap.specs.Walk.{Text, after_flag, Held, Row, Rule, Step, Walk, Waiting, idle, option, value, trailing, walked, after_step, arg_by_long, at_row, has_row, long_or_other, short_or_plain, finished, first_of, rows_of, more_values, used, with_default, settled, long_met, reading_by}
use Rattle.clap.specs.Kinds.{Kinds, or_else, FailsBy, IsAmong}
use Rattle.clap.specs.Values.{kind_of}
use Rattle.clap.specs.declared.error.Error.{Error}
use Rattle.clap.specs.declared.error.kind.ErrorKind.{ErrorKind}
use Rattle.clap.specs.declared.error.kind.ErrorKind.TheVariants as kind
use Rattle.clap.specs.Faults.{is_simple_and_free, entered_fault, default_fault, defaults_fault, check_fault, flag_word_fault, use_fault, settle_fault, fault_of, turn_fault, walk_fault, long_fault, bundle_fault, step_fault}
use Rattle.clap.specs.declared.parser.matches.ValueSource.TheVariants.{CommandLine}
use Rattle.clap.proofs.OnLiterals.{clap_on_literals}
use Rattle.hags_words.specs.App.{options_app, option_rule}
use Rattle.clap.specs.Words.{new_rule}
use Rattle.hags_words.specs.Options.{Argument, operand, kinds, node, inc, turns, key, silence, mend, gap, name_of, option_named, Values, is_given, is_same, value_of, ◌>>=◌, is_end, has_short}
use Rattle.hags_words.specs.Found.{HasValues}
use Rattle.hags_words.proofs.Pending.{Pending, after_pending, pending_word, pending_plain, pending_operand, pending_option, closed, added, none_pending, pending_from, pending_of}

-- the one that was read last, with its value or without
abbrev pub Last : Type 0
Last = Option (Argument × Option (List ℕ))

abbrev shape : Shape
shape = (built options_app).top

abbrev value_row : Argument → List ℕ → Row
value_row o v = record { id = name_of o; values = v ∷ []; count = None; source = Some CommandLine; reading = reading_by (option_rule (codes "inc")) }

abbrev rows : Values → List Row
rows = map (λ p. value_row p.0 p.1)

abbrev texts_of : Option (List ℕ) → List (List ℕ)
texts_of None = []
texts_of (Some v) = v ∷ []

abbrev waits : Option (Argument × Option (List ℕ)) → Waiting
waits None = idle
waits (Some (o, None)) = option (name_of o)
waits (Some (o, Some v)) = idle

abbrev place : Bool → ℕ
place true = 2
place false = 1

abbrev as_held : Pending → Held
as_held g = record { rows = rows g.values; pending = option_map (λ p. (name_of p.0, texts_of p.1)) g.last; skip = 0 }

abbrev as_walk : Pending → Walk
as_walk g = record { held = as_held g; waiting = waits g.last; position = place g.taken; is_trailing = g.ended; stopped = None }

-- what clap does with a word, by what the word looks like
abbrev met : Pending → List ℕ → Bool → Option (List ℕ × Option (List ℕ)) → Held × Step
met g word t l = if g.ended then (as_held g, value) else (if t then (as_held g, trailing (place g.taken)) else long_or_other shape.rules (waits g.last) word l (as_held g))

abbrev faults : Pending → List ℕ → Bool → Option (List ℕ × Option (List ℕ)) → Kinds
faults g word t l = or_else (if g.ended then [] else (if t then [] else flag_word_fault shape.rules false l word (as_held g))) (step_fault shape (place g.taken) (met g word t l).0 (met g word t l).1)

abbrev walks : Pending → List ℕ → Bool → Option (List ℕ × Option (List ℕ)) → Walk
walks g word t l = after_step shape.rules word (as_walk g) (met g word t l).0 (met g word t l).1

abbrev pub state : Values → Last → Bool → Bool → Pending
state values last ended taken = record { values = values; last = last; ended = ended; taken = taken }

faults_are : (values : Values) (last : Last) (ended taken : Bool) (word : List ℕ)
    → turn_fault shape [] (as_walk (state values last ended taken)) word ≡ faults (state values last ended taken) word (bytes_eq word (45 ∷ 45 ∷ [])) (long_of word)
faults_are values None ended taken word = refl
faults_are values (Some (o, None)) ended taken word = refl
faults_are values (Some (o, Some v)) ended taken word = refl

walks_are : (values : Values) (last : Last) (ended taken : Bool) (word : List ℕ)
    → walked shape.rules [] (as_walk (state values last ended taken)) word ≡ walks (state values last ended taken) word (bytes_eq word (45 ∷ 45 ∷ [])) (long_of word)
unfolding walked
walks_are values None ended taken word = refl
walks_are values (Some (o, None)) ended taken word = refl
walks_are values (Some (o, Some v)) ended taken word = refl

-- what one word does is what the grammar says of it
abbrev StepIs : Kinds → Walk → Option Pending → Type 0
StepIs k w None = k ≢ []
StepIs k w (Some g) = (k ≡ []) × (w ≡ as_walk g)

dash_step : (values : Values) (last : Last) (taken : Bool) (word : List ℕ) (l : Option (List ℕ × Option (List ℕ)))
    → StepIs (faults (state values last false taken) word true l) (walks (state values last false taken) word true l) (Some (state values last true taken))
dash_step values last taken word l = (refl, refl)

-- ---- an option

same_is : (o x : Argument) → is_same x o ≡ bytes_eq (name_of x) (name_of o)
same_is operand operand = refl
same_is operand kinds = refl
same_is operand node = refl
same_is operand inc = refl
same_is operand turns = refl
same_is operand key = refl
same_is operand silence = refl
same_is operand mend = refl
same_is operand gap = refl
same_is kinds operand = refl
same_is kinds kinds = refl
same_is kinds node = refl
same_is kinds inc = refl
same_is kinds turns = refl
same_is kinds key = refl
same_is kinds silence = refl
same_is kinds mend = refl
same_is kinds gap = refl
same_is node operand = refl
same_is node kinds = refl
same_is node node = refl
same_is node inc = refl
same_is node turns = refl
same_is node key = refl
same_is node silence = refl
same_is node mend = refl
same_is node gap = refl
same_is inc operand = refl
same_is inc kinds = refl
same_is inc node = refl
same_is inc inc = refl
same_is inc turns = refl
same_is inc key = refl
same_is inc silence = refl
same_is inc mend = refl
same_is inc gap = refl
same_is turns operand = refl
same_is turns kinds = refl
same_is turns node = refl
same_is turns inc = refl
same_is turns turns = refl
same_is turns key = refl
same_is turns silence = refl
same_is turns mend = refl
same_is turns gap = refl
same_is key operand = refl
same_is key kinds = refl
same_is key node = refl
same_is key inc = refl
same_is key turns = refl
same_is key key = refl
same_is key silence = refl
same_is key mend = refl
same_is key gap = refl
same_is silence operand = refl
same_is silence kinds = refl
same_is silence node = refl
same_is silence inc = refl
same_is silence turns = refl
same_is silence key = refl
same_is silence silence = refl
same_is silence mend = refl
same_is silence gap = refl
same_is mend operand = refl
same_is mend kinds = refl
same_is mend node = refl
same_is mend inc = refl
same_is mend turns = refl
same_is mend key = refl
same_is mend silence = refl
same_is mend mend = refl
same_is mend gap = refl
same_is gap operand = refl
same_is gap kinds = refl
same_is gap node = refl
same_is gap inc = refl
same_is gap turns = refl
same_is gap key = refl
same_is gap silence = refl
same_is gap mend = refl
same_is gap gap = refl

given_is : (o : Argument) (values : Values) → is_given o values ≡ has_row (name_of o) (rows values)
given_is o [] = refl
given_is o (p ∷ ps) = ap₂ (λ a b. a || b) (same_is o p.0) (given_is o ps)

kept_head : (t b : Bool) (r : Row) (rs more all : List Row) (change : Row → List Row) → (b ≡ false → more ≡ all) → (t || b) ≡ false → (if t then change r ++ rs else r ∷ more) ≡ r ∷ all
kept_head true b r rs more all change h e = absurd cc
kept_head false b r rs more all change h e = ap (λ xs. r ∷ xs) (h e)

-- an option that has no row changes none, and comes last
no_row : (id : List ℕ) (change : Row → List Row) (missing rs : List Row) → has_row id rs ≡ false → at_row id change missing rs ≡ rs ++ missing
no_row id change missing [] e = refl
no_row id change missing (r ∷ rs) e = kept_head (bytes_eq r.id id) (has_row id rs) r rs (at_row id change missing rs) (rs ++ missing) change (no_row id change missing rs) e

-- ---- one use of an option

abbrev rule_of_argument : Argument → Rule
rule_of_argument operand = with_index 1 (filled (new_rule (codes "operand")))
rule_of_argument kinds = with_index 1 (filled (option_rule (codes "kinds")))
rule_of_argument node = with_index 1 (filled (option_rule (codes "node")))
rule_of_argument inc = with_index 1 (filled (option_rule (codes "inc")))
rule_of_argument turns = with_index 1 (filled (option_rule (codes "turns")))
rule_of_argument key = with_index 1 (filled (option_rule (codes "key")))
rule_of_argument silence = with_index 1 (filled (option_rule (codes "silence")))
rule_of_argument mend = with_index 1 (filled (option_rule (codes "mend")))
rule_of_argument gap = with_index 1 (filled (option_rule (codes "gap")))

abbrev UseIs : Kinds → List Row → Option Values → Type 0
UseIs k rs None = k ≢ []
UseIs k rs (Some values) = (k ≡ []) × (rs ≡ rows values)

rows_push : (values : Values) (o : Argument) (v : List ℕ) → rows values ++ value_row o v ∷ [] ≡ rows (values ++ (o, v) ∷ [])
rows_push [] o v = refl
rows_push (p ∷ ps) o v = ap (λ rs. value_row p.0 p.1 ∷ rs) (rows_push ps o v)

used_new : (id : List ℕ) (change : Row → List Row) (missing rs : List Row) → has_row id rs ≡ false → at_row id change missing (at_row id (λ _. []) [] rs) ≡ rs ++ missing
used_new id change missing rs e = ap (λ xs. at_row id change missing xs) (no_row id (λ _. []) [] rs e ∙ append-nil rs) ∙ no_row id change missing rs e

use_new : (o : Argument) (v : List ℕ) (values : Values) → has_row (name_of o) (rows values) ≡ false
    → (use_fault false (rule_of_argument o) (v ∷ []) (rows values) ≡ []) × (used (rule_of_argument o) (v ∷ []) (rows values) ≡ rows (values ++ (o, v) ∷ []))
use_new operand v values e = (rw e refl, used_new (codes "operand") (more_values CommandLine (v ∷ [])) (value_row operand v ∷ []) (rows values) e ∙ rows_push values operand v)
use_new kinds v values e = (rw e refl, used_new (codes "kinds") (more_values CommandLine (v ∷ [])) (value_row kinds v ∷ []) (rows values) e ∙ rows_push values kinds v)
use_new node v values e = (rw e refl, used_new (codes "node") (more_values CommandLine (v ∷ [])) (value_row node v ∷ []) (rows values) e ∙ rows_push values node v)
use_new inc v values e = (rw e refl, used_new (codes "inc") (more_values CommandLine (v ∷ [])) (value_row inc v ∷ []) (rows values) e ∙ rows_push values inc v)
use_new turns v values e = (rw e refl, used_new (codes "turns") (more_values CommandLine (v ∷ [])) (value_row turns v ∷ []) (rows values) e ∙ rows_push values turns v)
use_new key v values e = (rw e refl, used_new (codes "key") (more_values CommandLine (v ∷ [])) (value_row key v ∷ []) (rows values) e ∙ rows_push values key v)
use_new silence v values e = (rw e refl, used_new (codes "silence") (more_values CommandLine (v ∷ [])) (value_row silence v ∷ []) (rows values) e ∙ rows_push values silence v)
use_new mend v values e = (rw e refl, used_new (codes "mend") (more_values CommandLine (v ∷ [])) (value_row mend v ∷ []) (rows values) e ∙ rows_push values mend v)
use_new gap v values e = (rw e refl, used_new (codes "gap") (more_values CommandLine (v ∷ [])) (value_row gap v ∷ []) (rows values) e ∙ rows_push values gap v)

use_again : (o : Argument) (v : List ℕ) (values : Values) → has_row (name_of o) (rows values) ≡ true
    → use_fault false (rule_of_argument o) (v ∷ []) (rows values) ≢ []
use_again operand v values e = rw e (λ x. absurd cc)
use_again kinds v values e = rw e (λ x. absurd cc)
use_again node v values e = rw e (λ x. absurd cc)
use_again inc v values e = rw e (λ x. absurd cc)
use_again turns v values e = rw e (λ x. absurd cc)
use_again key v values e = rw e (λ x. absurd cc)
use_again silence v values e = rw e (λ x. absurd cc)
use_again mend v values e = rw e (λ x. absurd cc)
use_again gap v values e = rw e (λ x. absurd cc)

-- ---- which option a name names

found_by : (a b c d e f g h : Bool)
    → (if (a || false) then Some (rule_of_argument kinds) else (if (b || false) then Some (rule_of_argument node) else (if (c || false) then Some (rule_of_argument inc) else (if (d || false) then Some (rule_of_argument turns) else (if (e || false) then Some (rule_of_argument key) else (if (f || false) then Some (rule_of_argument silence) else (if (g || false) then Some (rule_of_argument mend) else (if (h || false) then Some (rule_of_argument gap) else None))))))))
    ≡ option_map rule_of_argument (if a then Some kinds else (if b then Some node else (if c then Some inc else (if d then Some turns else (if e then Some key else (if f then Some silence else (if g then Some mend else (if h then Some gap else None))))))))
found_by true b c d e f g h = refl
found_by false true c d e f g h = refl
found_by false false true d e f g h = refl
found_by false false false true e f g h = refl
found_by false false false false true f g h = refl
found_by false false false false false true g h = refl
found_by false false false false false false true h = refl
found_by false false false false false false false true = refl
found_by false false false false false false false false = refl

found_is : (name : List ℕ) → arg_by_long shape.rules name ≡ option_map rule_of_argument (option_named name)
found_is name = found_by (bytes_eq (codes "kinds") name) (bytes_eq (codes "node") name) (bytes_eq (codes "inc") name) (bytes_eq (codes "turns") name) (bytes_eq (codes "key") name) (bytes_eq (codes "silence") name) (bytes_eq (codes "mend") name) (bytes_eq (codes "gap") name)

use_by : (o : Argument) (v : List ℕ) (values : Values) (b : Bool) → is_given o values ≡ b
    → UseIs (use_fault false (rule_of_argument o) (v ∷ []) (rows values)) (used (rule_of_argument o) (v ∷ []) (rows values)) (if b then None else Some (values ++ (o, v) ∷ []))
use_by o v values true e = use_again o v values (sym (given_is o values) ∙ e)
use_by o v values false e = use_new o v values (sym (given_is o values) ∙ e)

use_is : (o : Argument) (v : List ℕ) (values : Values) → UseIs (use_fault false (rule_of_argument o) (v ∷ []) (rows values)) (used (rule_of_argument o) (v ∷ []) (rows values)) (added o v values)
use_is o v values = use_by o v values (is_given o values) refl

close_is : (values : Values) (last : Last) (ended taken : Bool)
    → UseIs (settle_fault shape.rules false (as_held (state values last ended taken))) (settled shape.rules (as_held (state values last ended taken))).rows (closed values last)
close_is values None ended taken = (refl, refl)
close_is values (Some (operand, None)) ended taken = λ e. absurd cc
close_is values (Some (kinds, None)) ended taken = λ e. absurd cc
close_is values (Some (node, None)) ended taken = λ e. absurd cc
close_is values (Some (inc, None)) ended taken = λ e. absurd cc
close_is values (Some (turns, None)) ended taken = λ e. absurd cc
close_is values (Some (key, None)) ended taken = λ e. absurd cc
close_is values (Some (silence, None)) ended taken = λ e. absurd cc
close_is values (Some (mend, None)) ended taken = λ e. absurd cc
close_is values (Some (gap, None)) ended taken = λ e. absurd cc
close_is values (Some (operand, Some v)) ended taken = use_is operand v values
close_is values (Some (kinds, Some v)) ended taken = use_is kinds v values
close_is values (Some (node, Some v)) ended taken = use_is node v values
close_is values (Some (inc, Some v)) ended taken = use_is inc v values
close_is values (Some (turns, Some v)) ended taken = use_is turns v values
close_is values (Some (key, Some v)) ended taken = use_is key v values
close_is values (Some (silence, Some v)) ended taken = use_is silence v values
close_is values (Some (mend, Some v)) ended taken = use_is mend v values
close_is values (Some (gap, Some v)) ended taken = use_is gap v values

or_nil : (k : Kinds) → or_else k [] ≡ [] → k ≡ []
or_nil [] e = refl
or_nil (x ∷ xs) e = e

or_first : (k m : Kinds) → or_else k m ≡ [] → k ≡ []
or_first [] m e = refl
or_first (x ∷ xs) m e = e

or_second : (k m : Kinds) → or_else k m ≡ [] → m ≡ []
or_second [] m e = e
or_second (x ∷ xs) m e = absurd cc

abbrev walk_with : List Row → Option (Text × List Text) → Waiting → Bool → Bool → Walk
walk_with rs pending waiting ended taken = record { held = record { rows = rs; pending = pending; skip = 0 }; waiting = waiting; position = place taken; is_trailing = ended; stopped = None }

-- an option whose value is the next word
opens : (o : Argument) (taken : Bool) (k : Kinds) (rs : List Row) (r : Option Values) → UseIs k rs r
    → StepIs (or_else k []) (walk_with rs (Some (name_of o, [])) (option (name_of o)) false taken) (r >>= λ values. Some (state values (Some (o, None)) false taken))
opens o taken k rs None h = λ e. h (or_nil k e)
opens o taken k rs (Some values) h = (ap (λ x. or_else x []) h.0, ap (λ x. walk_with x (Some (name_of o, [])) (option (name_of o)) false taken) h.1)

-- an option with its value
gives : (o : Argument) (taken : Bool) (v : List ℕ) (k : Kinds) (rs : List Row) (r : Option Values) → UseIs k rs r
    → StepIs (or_else (or_else k (use_fault false (rule_of_argument o) (v ∷ []) rs)) []) (walk_with (used (rule_of_argument o) (v ∷ []) rs) None idle false taken)
    (r >>= λ values. added o v values >>= λ all. Some (state all None false taken))
gives o taken v k rs None h = λ e. h (or_first k _ (or_nil _ e))
gives o taken v k rs (Some values) h =
    let P : List Row → Type 0 = λ x. UseIs (use_fault false (rule_of_argument o) (v ∷ []) x) (used (rule_of_argument o) (v ∷ []) x) (added o v values) in
    given k rs h.0 (added o v values) (subst P (sym h.1) (use_is o v values))
  where
    given : (k : Kinds) (rs : List Row) → k ≡ [] → (r : Option Values) → UseIs (use_fault false (rule_of_argument o) (v ∷ []) rs) (used (rule_of_argument o) (v ∷ []) rs) r
        → StepIs (or_else (or_else k (use_fault false (rule_of_argument o) (v ∷ []) rs)) []) (walk_with (used (rule_of_argument o) (v ∷ []) rs) None idle false taken) (r >>= λ all. Some (state all None false taken))
    given k rs e None h = λ f. h (or_second k _ (or_nil _ f))
    given k rs e (Some all) h = (rw (e, h.0) refl, ap (λ x. walk_with x None idle false taken) h.1)

-- the operand
takes : (ended : Bool) (word : List ℕ) (k : Kinds) (rs : List Row) (r : Option Values) → UseIs k rs r
    → StepIs k (walk_with rs (Some (codes "operand", word ∷ [])) idle ended true) (r >>= λ values. Some (state values (Some (operand, Some word)) ended true))
takes ended word k rs None h = h
takes ended word k rs (Some values) h = (h.0, ap (λ x. walk_with x (Some (codes "operand", word ∷ [])) idle ended true) h.1)

operand_step : (values : Values) (last : Last) (ended taken : Bool) (word : List ℕ)
    → let g : Pending = state values last ended taken in
    StepIs (step_fault shape (place taken) (as_held g) value) (after_step shape.rules word (as_walk g) (as_held g) value) (pending_operand g word taken)
operand_step values last ended true word = λ e. absurd cc
operand_step values None true false word = takes true word _ _ (closed values None) (close_is values None true false)
operand_step values None false false word = takes false word _ _ (closed values None) (close_is values None false false)
operand_step values (Some (operand, v)) true false word = takes true word _ _ (closed values (Some (operand, v))) (close_is values (Some (operand, v)) true false)
operand_step values (Some (kinds, v)) true false word = takes true word _ _ (closed values (Some (kinds, v))) (close_is values (Some (kinds, v)) true false)
operand_step values (Some (node, v)) true false word = takes true word _ _ (closed values (Some (node, v))) (close_is values (Some (node, v)) true false)
operand_step values (Some (inc, v)) true false word = takes true word _ _ (closed values (Some (inc, v))) (close_is values (Some (inc, v)) true false)
operand_step values (Some (turns, v)) true false word = takes true word _ _ (closed values (Some (turns, v))) (close_is values (Some (turns, v)) true false)
operand_step values (Some (key, v)) true false word = takes true word _ _ (closed values (Some (key, v))) (close_is values (Some (key, v)) true false)
operand_step values (Some (silence, v)) true false word = takes true word _ _ (closed values (Some (silence, v))) (close_is values (Some (silence, v)) true false)
operand_step values (Some (mend, v)) true false word = takes true word _ _ (closed values (Some (mend, v))) (close_is values (Some (mend, v)) true false)
operand_step values (Some (gap, v)) true false word = takes true word _ _ (closed values (Some (gap, v))) (close_is values (Some (gap, v)) true false)
operand_step values (Some (operand, v)) false false word = takes false word _ _ (closed values (Some (operand, v))) (close_is values (Some (operand, v)) false false)
operand_step values (Some (kinds, v)) false false word = takes false word _ _ (closed values (Some (kinds, v))) (close_is values (Some (kinds, v)) false false)
operand_step values (Some (node, v)) false false word = takes false word _ _ (closed values (Some (node, v))) (close_is values (Some (node, v)) false false)
operand_step values (Some (inc, v)) false false word = takes false word _ _ (closed values (Some (inc, v))) (close_is values (Some (inc, v)) false false)
operand_step values (Some (turns, v)) false false word = takes false word _ _ (closed values (Some (turns, v))) (close_is values (Some (turns, v)) false false)
operand_step values (Some (key, v)) false false word = takes false word _ _ (closed values (Some (key, v))) (close_is values (Some (key, v)) false false)
operand_step values (Some (silence, v)) false false word = takes false word _ _ (closed values (Some (silence, v))) (close_is values (Some (silence, v)) false false)
operand_step values (Some (mend, v)) false false word = takes false word _ _ (closed values (Some (mend, v))) (close_is values (Some (mend, v)) false false)
operand_step values (Some (gap, v)) false false word = takes false word _ _ (closed values (Some (gap, v))) (close_is values (Some (gap, v)) false false)

-- a word that is no option
abbrev plain_met : Pending → List ℕ → Option (List ℕ) → Held × Step
plain_met g word s = short_or_plain shape.rules (waits g.last) word s (as_held g)

plain_step : (values : Values) (last : Last) (taken : Bool) (word : List ℕ)
    → let g : Pending = state values last false taken in
    StepIs (or_else [] (step_fault shape (place taken) (plain_met g word None).0 (plain_met g word None).1)) (after_step shape.rules word (as_walk g) (plain_met g word None).0 (plain_met g word None).1) (pending_plain g last word)
plain_step values None taken word = operand_step values None false taken word
plain_step values (Some (operand, None)) taken word = (refl, refl)
plain_step values (Some (kinds, None)) taken word = (refl, refl)
plain_step values (Some (node, None)) taken word = (refl, refl)
plain_step values (Some (inc, None)) taken word = (refl, refl)
plain_step values (Some (turns, None)) taken word = (refl, refl)
plain_step values (Some (key, None)) taken word = (refl, refl)
plain_step values (Some (silence, None)) taken word = (refl, refl)
plain_step values (Some (mend, None)) taken word = (refl, refl)
plain_step values (Some (gap, None)) taken word = (refl, refl)
plain_step values (Some (o, Some v)) taken word = operand_step values (Some (o, Some v)) false taken word

abbrev found_met : Pending → List ℕ → Option Rule → Option (List ℕ) → Held × Step
found_met g word f v = after_flag shape.rules (waits g.last) word (long_met shape.rules f v (as_held g)).0 (long_met shape.rules f v (as_held g)).1

abbrev OptionStep : Values → Option (Argument × Option (List ℕ)) → Bool → List ℕ → Option Rule → Option (List ℕ) → Option Pending → Type 0
OptionStep values last taken word f v r =
    let g : Pending = state values last false taken in
    StepIs (or_else (long_fault shape.rules false f v (as_held g)) (step_fault shape (place taken) (found_met g word f v).0 (found_met g word f v).1))
    (after_step shape.rules word (as_walk g) (found_met g word f v).0 (found_met g word f v).1) r

-- `option_named` never answers the operand
abbrev pub IsOption : Option Argument → Type 0
IsOption (Some operand) = Some operand ≡ None
IsOption _ = Unit {0}

option_step : (values : Values) (last : Last) (taken : Bool) (word : List ℕ) (o : Option Argument) (v : Option (List ℕ)) → IsOption o
    → OptionStep values last taken word (option_map rule_of_argument o) v (pending_option (state values last false taken) o v)
option_step values last taken word None v is = λ e. absurd cc
option_step values last taken word (Some operand) v is = absurd cc
option_step values last taken word (Some kinds) None is = opens kinds taken _ _ (closed values last) (close_is values last false taken)
option_step values last taken word (Some node) None is = opens node taken _ _ (closed values last) (close_is values last false taken)
option_step values last taken word (Some inc) None is = opens inc taken _ _ (closed values last) (close_is values last false taken)
option_step values last taken word (Some turns) None is = opens turns taken _ _ (closed values last) (close_is values last false taken)
option_step values last taken word (Some key) None is = opens key taken _ _ (closed values last) (close_is values last false taken)
option_step values last taken word (Some silence) None is = opens silence taken _ _ (closed values last) (close_is values last false taken)
option_step values last taken word (Some mend) None is = opens mend taken _ _ (closed values last) (close_is values last false taken)
option_step values last taken word (Some gap) None is = opens gap taken _ _ (closed values last) (close_is values last false taken)
option_step values last taken word (Some kinds) (Some v) is = gives kinds taken v _ _ (closed values last) (close_is values last false taken)
option_step values last taken word (Some node) (Some v) is = gives node taken v _ _ (closed values last) (close_is values last false taken)
option_step values last taken word (Some inc) (Some v) is = gives inc taken v _ _ (closed values last) (close_is values last false taken)
option_step values last taken word (Some turns) (Some v) is = gives turns taken v _ _ (closed values last) (close_is values last false taken)
option_step values last taken word (Some key) (Some v) is = gives key taken v _ _ (closed values last) (close_is values last false taken)
option_step values last taken word (Some silence) (Some v) is = gives silence taken v _ _ (closed values last) (close_is values last false taken)
option_step values last taken word (Some mend) (Some v) is = gives mend taken v _ _ (closed values last) (close_is values last false taken)
option_step values last taken word (Some gap) (Some v) is = gives gap taken v _ _ (closed values last) (close_is values last false taken)

is_option_by : (a b c d e f g h : Bool) → IsOption (if a then Some kinds else (if b then Some node else (if c then Some inc else (if d then Some turns else (if e then Some key else (if f then Some silence else (if g then Some mend else (if h then Some gap else None))))))))
is_option_by true b c d e f g h = tt
is_option_by false true c d e f g h = tt
is_option_by false false true d e f g h = tt
is_option_by false false false true e f g h = tt
is_option_by false false false false true f g h = tt
is_option_by false false false false false true g h = tt
is_option_by false false false false false false true h = tt
is_option_by false false false false false false false true = tt
is_option_by false false false false false false false false = tt

pub is_option : (name : List ℕ) → IsOption (option_named name)
is_option name = is_option_by (bytes_eq (codes "kinds") name) (bytes_eq (codes "node") name) (bytes_eq (codes "inc") name) (bytes_eq (codes "turns") name) (bytes_eq (codes "key") name) (bytes_eq (codes "silence") name) (bytes_eq (codes "mend") name) (bytes_eq (codes "gap") name)

-- ---- one word

none_step : (values : Values) (last : Last) (taken : Bool) (word : List ℕ) (s : Option (List ℕ)) → is_some s ≡ false
    → let g : Pending = state values last false taken in
    StepIs (or_else (option_map_or (λ flags. bundle_fault shape.rules false flags (as_held g)) s []) (step_fault shape (place taken) (plain_met g word s).0 (plain_met g word s).1))
    (after_step shape.rules word (as_walk g) (plain_met g word s).0 (plain_met g word s).1) (pending_plain g last word)
none_step values last taken word None e = plain_step values last taken word
none_step values last taken word (Some flags) e = absurd cc

word_step : (values : Values) (last : Last) (taken : Bool) (word : List ℕ) → is_short_word word ≡ false → (l : Option (List ℕ × Option (List ℕ)))
    → StepIs (faults (state values last false taken) word false l) (walks (state values last false taken) word false l) (pending_word (state values last false taken) word l)
word_step values last taken word p None = none_step values last taken word (short_of word) p
word_step values last taken word p (Some q) =
    subst (λ (f : Option Rule). OptionStep values last taken word f q.1 (pending_option (state values last false taken) (option_named q.0) q.1)) (sym (found_is q.0)) (option_step values last taken word (option_named q.0) q.1 (is_option q.0))

-- it is an option of one letter, where options may stand
abbrev pub short_here : Bool → Bool → Bool → Bool
short_here true t s = false
short_here false true s = false
short_here false false s = s

any_step : (values : Values) (last : Last) (ended taken : Bool) (word : List ℕ) (t : Bool) → short_here ended t (is_short_word word) ≡ false
    → StepIs (faults (state values last ended taken) word t (long_of word)) (walks (state values last ended taken) word t (long_of word))
    (if ended then pending_operand (state values last ended taken) word taken else (if t then Some (state values last true taken) else pending_word (state values last ended taken) word (long_of word)))
any_step values last true taken word t p = operand_step values last true taken word
any_step values last false taken word true p = dash_step values last taken word (long_of word)
any_step values last false taken word false p = word_step values last taken word p (long_of word)

step_is : (values : Values) (last : Last) (ended taken : Bool) (word : List ℕ) → short_here ended (is_end word) (is_short_word word) ≡ false
    → StepIs (turn_fault shape [] (as_walk (state values last ended taken)) word) (walked shape.rules [] (as_walk (state values last ended taken)) word) (after_pending (state values last ended taken) word)
step_is values last ended taken word p =
    let g : Pending = state values last ended taken in
    let r : Option Pending = after_pending g word in
    subst (λ (k : Kinds). StepIs k (walked shape.rules [] (as_walk g) word) r) (sym (faults_are values last ended taken word))
    (subst (λ (w : Walk). StepIs (faults g word (bytes_eq word (45 ∷ 45 ∷ [])) (long_of word)) w r) (sym (walks_are values last ended taken word)) (any_step values last ended taken word (is_end word) p))

-- ---- all words

abbrev EndIs : Kinds → Walk → Option Values → Type 0
EndIs k w None = or_else k (settle_fault shape.rules false w.held) ≢ []
EndIs k w (Some values) = (k ≡ []) × (settle_fault shape.rules false w.held ≡ []) × ((settled shape.rules w.held).rows ≡ rows values)

none_left : (k : Kinds) (rs : List Row) (w : Walk) (r : Option Values) → k ≡ settle_fault shape.rules false w.held → rs ≡ (settled shape.rules w.held).rows → UseIs k rs r → EndIs [] w r
none_left k rs w None e f h = λ x. h (e ∙ x)
none_left k rs w (Some values) e f h = (refl, sym e ∙ h.0, sym f ∙ h.1)

abbrev walk_on : Walk → List (List ℕ) → Walk
walk_on w words = fold (walked shape.rules []) w words

-- whether `--` came
unfoldable pub EndedIs : Bool → Option Pending → Type 0
EndedIs e None = Unit {0}
EndedIs e (Some g) = g.ended ≡ e

none_ended : (e : Bool) → EndedIs e None
unfolding EndedIs
none_ended e = tt

some_ended : (g : Pending) → EndedIs g.ended (Some g)
unfolding EndedIs
some_ended g = refl

bind_ended : {A : Type 0} (e : Bool) (r : Option A) (f : A → Option Pending) → ((v : A) → EndedIs e (f v)) → EndedIs e (r >>= f)
unfolding EndedIs
bind_ended e None f h = tt
bind_ended e (Some v) f h = h v

operand_ended : (values : Values) (last : Last) (ended taken : Bool) (word : List ℕ) (b : Bool) → EndedIs ended (pending_operand (state values last ended taken) word b)
operand_ended values last ended taken word true = none_ended ended
operand_ended values last ended taken word false = bind_ended ended (closed values last) _ (λ vs. some_ended (state vs (Some (operand, Some word)) ended true))

plain_ended : (values : Values) (last : Last) (ended taken : Bool) (word : List ℕ) → EndedIs ended (pending_plain (state values last ended taken) last word)
plain_ended values None ended taken word = operand_ended values None ended taken word taken
plain_ended values (Some (o, None)) ended taken word = some_ended (state values (Some (o, Some word)) ended taken)
plain_ended values (Some (o, Some v)) ended taken word = operand_ended values (Some (o, Some v)) ended taken word taken

option_ended : (values : Values) (last : Last) (ended taken : Bool) (o : Option Argument) (v : Option (List ℕ)) → EndedIs ended (pending_option (state values last ended taken) o v)
option_ended values last ended taken None v = none_ended ended
option_ended values last ended taken (Some o) None = bind_ended ended (closed values last) _ (λ vs. some_ended (state vs (Some (o, None)) ended taken))
option_ended values last ended taken (Some o) (Some v) = bind_ended ended (closed values last) _ (λ vs. bind_ended ended (added o v vs) _ (λ all. some_ended (state all None ended taken)))

word_ended : (values : Values) (last : Last) (ended taken : Bool) (word : List ℕ) (l : Option (List ℕ × Option (List ℕ))) → EndedIs ended (pending_word (state values last ended taken) word l)
word_ended values last ended taken word None = plain_ended values last ended taken word
word_ended values last ended taken word (Some q) = option_ended values last ended taken (option_named q.0) q.1

pub step_ended : (values : Values) (last : Last) (ended taken : Bool) (word : List ℕ) (t : Bool)
    → EndedIs (ended || t) (if ended then pending_operand (state values last ended taken) word taken else (if t then Some (state values last true taken) else pending_word (state values last ended taken) word (long_of word)))
step_ended values last true taken word t = operand_ended values last true taken word taken
step_ended values last false taken word true = some_ended (state values last true taken)
step_ended values last false taken word false = word_ended values last false taken word (long_of word)

-- an option of one letter stands where options may
unfoldable pub short_after : Bool → List (List ℕ) → Bool
short_after ended words = if ended then false else has_short words

goes_on : (words : List (List ℕ)) (k : Kinds) (w : Walk) (e : Bool) (r : Option Pending) → StepIs k w r → EndedIs e r
    → ((g : Pending) → g.ended ≡ e → EndIs (walk_fault shape [] (as_walk g) words) (walk_on (as_walk g) words) (pending_from g words))
    → EndIs (or_else k (walk_fault shape [] w words)) (walk_on w words) (r >>= λ after. pending_from after words)
unfolding EndedIs
goes_on words k w e None h ends next = λ f. h (or_first k _ (or_first _ _ f))
goes_on words k w e (Some g) h ends next =
    subst (λ (x : Kinds). EndIs (or_else x (walk_fault shape [] w words)) (walk_on w words) (pending_from g words)) (sym h.0)
    (subst (λ (x : Walk). EndIs (walk_fault shape [] x words) (walk_on x words) (pending_from g words)) (sym h.1) (next g ends))

either_false : (a b : Bool) → (a || b) ≡ false → (a ≡ false) × (b ≡ false)
either_false true b e = absurd cc
either_false false b e = (refl, e)

first_free : (ended t s rest : Bool) → (if ended then false else (if t then false else (s || rest))) ≡ false → short_here ended t s ≡ false
first_free true t s rest e = refl
first_free false true s rest e = refl
first_free false false s rest e = (either_false s rest e).0

rest_free : (ended t s : Bool) (words : List (List ℕ)) → (if ended then false else (if t then false else (s || has_short words))) ≡ false → short_after (ended || t) words ≡ false
unfolding short_after
rest_free true t s words e = refl
rest_free false true s words e = refl
rest_free false false s words e = (either_false s (has_short words) e).1

pub first_is_free : (ended : Bool) (word : List ℕ) (words : List (List ℕ)) → short_after ended (word ∷ words) ≡ false → short_here ended (is_end word) (is_short_word word) ≡ false
unfolding short_after
first_is_free ended word words e = first_free ended (is_end word) (is_short_word word) (has_short words) e

pub rest_is_free : (ended : Bool) (word : List ℕ) (words : List (List ℕ)) → short_after ended (word ∷ words) ≡ false → short_after (ended || is_end word) words ≡ false
unfolding short_after
rest_is_free ended word words e = rest_free ended (is_end word) (is_short_word word) words e

run_is : (words : List (List ℕ)) (g : Pending) → short_after g.ended words ≡ false → EndIs (walk_fault shape [] (as_walk g) words) (walk_on (as_walk g) words) (pending_from g words)
unfolding walk_fault pending_from
run_is [] g p = none_left _ _ (as_walk g) (closed g.values g.last) refl refl (close_is g.values g.last g.ended g.taken)
run_is (word ∷ words) g p =
    goes_on words _ _ (g.ended || is_end word) (after_pending g word) (step_is g.values g.last g.ended g.taken word (first_is_free g.ended word words p)) (step_ended g.values g.last g.ended g.taken word (is_end word))
    (λ after e. run_is words after (rw e (rest_is_free g.ended word words p)))

-- ---- after the walk

default_by : (b : Bool) (k : Kinds) → (if (b || true) then [] else k) ≡ []
default_by true k = refl
default_by false k = refl

no_default : (rs rs2 rs3 rs4 rs5 rs6 rs7 rs8 rs9 : List Row)
    → or_else (default_fault rs (rule_of_argument operand)) (or_else (default_fault rs2 (rule_of_argument kinds)) (or_else (default_fault rs3 (rule_of_argument node)) (or_else (default_fault rs4 (rule_of_argument inc)) (or_else (default_fault rs5 (rule_of_argument turns)) (or_else (default_fault rs6 (rule_of_argument key)) (or_else (default_fault rs7 (rule_of_argument silence)) (or_else (default_fault rs8 (rule_of_argument mend)) (or_else (default_fault rs9 (rule_of_argument gap)) [])))))))) ≡ []
no_default rs rs2 rs3 rs4 rs5 rs6 rs7 rs8 rs9 =
    rw (default_by (has_row (codes "operand") rs) _, default_by (has_row (codes "kinds") rs2) _, default_by (has_row (codes "node") rs3) _, default_by (has_row (codes "inc") rs4) _, default_by (has_row (codes "turns") rs5) _, default_by (has_row (codes "key") rs6) _, default_by (has_row (codes "silence") rs7) _, default_by (has_row (codes "mend") rs8) _, default_by (has_row (codes "gap") rs9) _) refl

abbrev past : Argument → List Row → List Row
past o rs = with_default rs (rule_of_argument o)

defaults_none : (rs : List Row) → defaults_fault rs shape.rules ≡ []
unfolding defaults_fault
defaults_none rs =
    no_default rs (past operand rs) (past kinds (past operand rs)) (past node (past kinds (past operand rs))) (past inc (past node (past kinds (past operand rs)))) (past turns (past inc (past node (past kinds (past operand rs))))) (past key (past turns (past inc (past node (past kinds (past operand rs)))))) (past silence (past key (past turns (past inc (past node (past kinds (past operand rs))))))) (past mend (past silence (past key (past turns (past inc (past node (past kinds (past operand rs))))))))

same_rows : (b : Bool) (rs : List Row) → (if b then rs else rs) ≡ rs
same_rows true rs = refl
same_rows false rs = refl

past_is : (o : Argument) (rs : List Row) → past o rs ≡ rs
past_is operand rs = same_rows (has_row (codes "operand") rs) rs
past_is kinds rs = same_rows (has_row (codes "kinds") rs) rs
past_is node rs = same_rows (has_row (codes "node") rs) rs
past_is inc rs = same_rows (has_row (codes "inc") rs) rs
past_is turns rs = same_rows (has_row (codes "turns") rs) rs
past_is key rs = same_rows (has_row (codes "key") rs) rs
past_is silence rs = same_rows (has_row (codes "silence") rs) rs
past_is mend rs = same_rows (has_row (codes "mend") rs) rs
past_is gap rs = same_rows (has_row (codes "gap") rs) rs

finished_is : (h : Held) → finished shape.rules h ≡ (settled shape.rules h).rows
finished_is h = past_is gap _ ∙ (past_is mend _ ∙ (past_is silence _ ∙ (past_is key _ ∙ (past_is turns _ ∙ (past_is inc _ ∙ (past_is node _ ∙ (past_is kinds _ ∙ past_is operand _)))))))

check_is : (rs : List Row) → check_fault shape rs false ≡ []
check_is rs = refl

abbrev rest_fault : Walk → Kinds
rest_fault w = or_else (settle_fault shape.rules false w.held) (or_else (defaults_fault (settled shape.rules w.held).rows shape.rules) (check_fault shape (finished shape.rules w.held) false))

none_free : (words : List (List ℕ)) → has_short words ≡ false → short_after none_pending.ended words ≡ false
unfolding short_after
none_free words p = p

-- the faults are none exactly where the words give something
pub FaultsAre : Kinds → Option Values → Type 0
FaultsAre k None = k ≢ []
FaultsAre k (Some values) = k ≡ []

ends : (k : Kinds) (w : Walk) (r : Option Values) → EndIs k w r → FaultsAre (or_else k (rest_fault w)) r
unfolding FaultsAre
ends k w None h = λ e.
    let first : k ≡ [] = or_first k _ e in
    let second : settle_fault shape.rules false w.held ≡ [] = or_first _ _ (or_second k _ e) in
    h (rw (first, second) refl)
ends k w (Some values) h = rw (h.0, h.1, defaults_none (settled shape.rules w.held).rows) refl

abbrev whole_fault : Kinds → Walk → Option (Text × List Text) → Kinds
whole_fault k w stop = or_else k (or_else (entered_fault (built options_app) stop) (or_else (settle_fault shape.rules false w.held)
    (or_else (defaults_fault (settled shape.rules w.held).rows shape.rules) (check_fault shape (finished shape.rules w.held) (is_some (entered (built options_app) stop))))))

no_subcommand : (k : Kinds) (w : Walk) (stop : Option (Text × List Text)) → whole_fault k w stop ≡ or_else k (rest_fault w)
no_subcommand k w None = refl
no_subcommand k w (Some p) = refl

-- what clap refuses is what the grammar refuses
pub faults_of_words : (words : List (List ℕ)) → has_short words ≡ false → FaultsAre (fault_of options_app words) (pending_of words)
faults_of_words words p =
    let w : Walk = walk_on (as_walk none_pending) words in
    let k : Kinds = walk_fault shape [] (as_walk none_pending) words in
    let e : fault_of options_app words ≡ or_else k (rest_fault w) = no_subcommand k w w.stopped in
    subst (λ (x : Kinds). FaultsAre x (pending_of words)) (sym e) (ends k w (pending_from none_pending words) (run_is words none_pending (none_free words p)))

rows_at_end : (k : Kinds) (w : Walk) (r : Option Values) (values : Values) → EndIs k w r → r ≡ Some values → finished shape.rules w.held ≡ rows values
rows_at_end k w None values h e = absurd cc
rows_at_end k w (Some vs) values h e = let same : vs ≡ values = cc in finished_is w.held ∙ (h.2 ∙ ap (λ x. rows x) same)

-- what clap finds is what the words give
pub matches_of_words : (words : List (List ℕ)) (values : Values) → has_short words ≡ false → pending_of words ≡ Some values → matches_of options_app words ≡ rows values
matches_of_words words values p e = rows_at_end _ (walk_on (as_walk none_pending) words) (pending_from none_pending words) values (run_is words none_pending (none_free words p)) e

ok_is : (k : Kinds) (r : Option Values) → FaultsAre k r → k ≡ [] → IsSome r
unfolding FaultsAre
ok_is k None h e = absurd (h e)
ok_is k (Some values) h e = refl

err_is : (k : Kinds) (r : Option Values) → FaultsAre k r → k ≢ [] → r ≡ None
unfolding FaultsAre
err_is k None h e = refl
err_is k (Some values) h e = absurd (e h)

pub pending_where_ok : (words : List (List ℕ)) → has_short words ≡ false → fault_of options_app words ≡ [] → IsSome (pending_of words)
pending_where_ok words p e = ok_is (fault_of options_app words) (pending_of words) (faults_of_words words p) e

pub none_where_err : (words : List (List ℕ)) → has_short words ≡ false → fault_of options_app words ≢ [] → pending_of words ≡ None
none_where_err words p e = err_is (fault_of options_app words) (pending_of words) (faults_of_words words p) e

among : (x : ErrorKind) (k : Kinds) → IsAmong x k → k ≢ []
among x [] h = absurd h
among x (y ∷ ys) h = λ e. absurd cc

-- what the clause `kinds` of a parse says, at a command that is simple
pub ok_no_faults : {T : Type 0} (r : Result T Error) (k : Kinds) → FailsBy k r → IfOk r (λ x. k ≡ [])
ok_no_faults (Ok x) k h = h
ok_no_faults (Err e) k h = tt

pub err_some_fault : {T : Type 0} (r : Result T Error) (k : Kinds) → FailsBy k r → IfErr r (λ e. kind_of e ≢ kind.OutOfMemory → k ≢ [])
err_some_fault (Ok x) k h = tt
err_some_fault (Err e) k (inl m) = λ not_memory. absurd (not_memory m)
err_some_fault (Err e) k (inr h) = λ not_memory. among (kind_of e) k h

simple : is_simple_and_free options_app ≡ true
unfolding clap_on_literals
simple = refl

pub simple_words : (a : App) → a ≡ options_app → is_simple_and_free a ≡ true
simple_words a e = ap is_simple_and_free e ∙ simple

simple_too : is_simple options_app ≡ true
unfolding clap_on_literals
simple_too = refl

pub simple_only : (a : App) → a ≡ options_app → is_simple a ≡ true
simple_only a e = ap is_simple e ∙ simple_too

-- ---- the values

value_head : (t : Bool) (o : Argument) (r : Row) (p : Argument × List ℕ) (found : Option Row) (also : Option (Argument × List ℕ)) → slice_get r.values 0 ≡ Some p.1
    → option_and_then (λ x. slice_get x.values 0) found ≡ option_map (λ x. x.1) also
    → option_and_then (λ x. slice_get x.values 0) (if t then Some r else found) ≡ option_map (λ x. x.1) (if t then Some p else also)
value_head true o r p found also e h = e
value_head false o r p found also e h = h

value_is : (o : Argument) (values : Values) → first_of (name_of o) (rows values) ≡ value_of o values
value_is o [] = refl
value_is o (p ∷ ps) =
    value_head (bytes_eq (name_of p.0) (name_of o)) o (value_row p.0 p.1) p _ (find (λ q. is_same q.0 o) ps) refl (value_is o ps)
    ∙ ap (λ b. option_map (λ x. x.1) (if b then Some p else find (λ q. is_same q.0 o) ps)) (sym (same_is o p.0))

-- the value that clap finds
found_value : (o : Argument) (words : List (List ℕ)) (f : Found) (values : Values) → pending_of words ≡ Some values → has_short words ≡ false → rows_of f ≡ matches_of options_app words
    → first_value f (name_of o) ≡ value_of o values
found_value o words f values e p h = first_value-rows f (name_of o) ∙ (ap (λ rs. first_of (name_of o) rs) (h ∙ matches_of_words words values p e) ∙ value_is o values)

values_by : (words : List (List ℕ)) (f : Found) (r : Option Values) → pending_of words ≡ r → has_short words ≡ false → rows_of f ≡ matches_of options_app words → IfSome r (HasValues f)
values_by words f None e p h = tt
values_by words f (Some values) e p h =
    record { operand_is = found_value operand words f values e p h; kinds_is = found_value kinds words f values e p h; node_is = found_value node words f values e p h; inc_is = found_value inc words f values e p h; turns_is = found_value turns words f values e p h; key_is = found_value key words f values e p h; silence_is = found_value silence words f values e p h; mend_is = found_value mend words f values e p h; gap_is = found_value gap words f values e p h }

pub values_found : (words : List (List ℕ)) (f : Found) → has_short words ≡ false → rows_of f ≡ matches_of options_app words → IfSome (pending_of words) (HasValues f)
values_found words f p h = values_by words f (pending_of words) refl p h
