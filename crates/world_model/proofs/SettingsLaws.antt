-- A script that is read as the settings of a node keeps their rules, and each that is read has the bytes of its calls.
use Rattle.std.proofs.Common.{◌≡◌, ◌≤◌, ◌<◌, ℕ, ◌+◌, ◌-◌, ◌++◌, List, [], ◌∷◌, Bool, true, false, cond, ◌&&◌, ◌||◌, length, Option, Some, None, is_some, refl, sym, ◌∙◌, ap, subst, arith, length-append}
use Rattle.std.specs.Prelude.{not, ◌==◌, nat_le, filter, flat_map, find, codes, if◌then◌else◌}
use Rattle.std.specs.List.{list_all}
use Rattle.std.specs.Str.{bytes_eq}
use Rattle.std.proofs.lemmas.Bool.{and_parts, or_parts, leb-true, eq-eqb}
use Rattle.std.proofs.lemmas.Bool.Decides.{nat_tests}
use Rattle.rsct_packet.specs.Lists.{is_empty, reverse_onto}
use Rattle.rsct_packet.specs.Mask.{has_node}
use Rattle.client_callbacks.specs.Votes.{votes_word}
use Rattle.node_state.specs.declared.config.Config.{Config}
use Rattle.node_state.specs.declared.config.Mode.{Mode}
use Rattle.node_state.specs.declared.config.Mode.TheVariants.{Fixed, Asked, Rings}
use Rattle.node_state.specs.declared.call.CallLine.{CallLine}
use Rattle.node_state.specs.declared.call.CallLine.TheVariants as call
use Rattle.node_state.specs.declared.call.CallLine.TheVariants.{Init}
use Rattle.world_model.specs.declared.event.Event.{Event}
use Rattle.world_model.specs.declared.event.Event.TheVariants as event
use Rattle.world_model.specs.declared.script.Aim.{Aim}
use Rattle.world_model.specs.declared.script.Aim.TheVariants.{Plays, Serves, Asks}
use Rattle.world_model.specs.declared.script.Line.{Line}
use Rattle.world_model.specs.declared.script.Line.TheVariants as line
use Rattle.world_model.specs.declared.script.LineWhy.{LineWhy}
use Rattle.world_model.specs.declared.script.LineWhy.TheVariants.{NoSharedNetwork, BoxedClient}
use Rattle.world_model.specs.declared.script.Script.{Script}
use Rattle.value_words.specs.Words.{◌>>=◌, is_digit, has_needless_zero, number_from, number_word, in_range, when_true, node_word}
use Rattle.world_model.specs.Lines.{Head, HMode, HNode, HAdapter, HHb, HPort, HLevel, HDomain, HBegin, HStart, HStop, HAsk, HTick, HRun, HDeliver, HDrop, HFlow, HCut, HHeal, HGarbage, HShow, HClient, HJoin, HLeave, HExpel, HState, HMessage, HAttrs, HVote, HSubscribe, HUnsubscribe, HGoodbye, Votes, Boxed, Scripted, scripted, client_votes, Said, SaysMode, SaysNode, SaysAdapter, SaysHb, SaysPort, SaysLevel, SaysDomain, SaysBegin, SaysLine, SaysClient, SaysCall, says_one, says_event, says_two, says_call, said}
use Rattle.world_model.specs.Reading.{Reading, objects_of, nothing_read, settled_if, settled, own_nodes, nodes_said, is_client, node_of_client, is_carried, misplaced, misplaced_served, misplaced_asked, misplaced_for, all_share, boxed_reason, last_reason, reason, with_line, with_call, boxed_word, votes_said, left_after, with_client, with_config, with_address, taken, with_text, IsScript, script_in, lacks_begin, read_for}
use Rattle.world_model.specs.Settings.{aim_of, daemon_script, calls_on, calls_of, own_on, is_boxed, boxed_on, own_boxed, is_placed, may_serve, FitsNode, KeepsRules, KeepsFor, HasTexts}
use Rattle.world_model.proofs.ReadingLaws.{Reasonless, reasonless, Keeps, EndsWith, read_keeps}

-- ---- what the words of a line say

abbrev VotesFit : Votes → Type 0
VotesFit Boxed = Unit {0}
VotesFit (Scripted w) = (bytes_eq w boxed_word ≡ false) × (is_some (votes_word w) ≡ true)

-- a call that makes no client
record CallFits (c : CallLine) : Type 0 where
  placed : (n : ℕ) → is_placed n c ≡ true
  unboxed : is_boxed c ≡ false

abbrev SaidFits : Said → Type 0
SaidFits (SaysPort p) = p ≤ 65000
SaidFits (SaysLine ns l) = calls_on l ≡ []
SaidFits (SaysClient n name votes) = VotesFit votes
SaidFits (SaysCall client c) = CallFits c
SaidFits _ = Unit {0}

abbrev SaysFit : Option Said → Type 0
SaysFit None = Unit {0}
SaysFit (Some x) = SaidFits x

then_fits : {X : Type 0} (o : Option X) (f : X → Option Said) → ((x : X) → o ≡ Some x → SaysFit (f x)) → SaysFit (o >>= f)
unfolding ◌>>=◌
then_fits None f h = tt
then_fits (Some x) f h = h x refl

one_fits : (f : ℕ → Said) (o : Option ℕ) → ((n : ℕ) → o ≡ Some n → SaidFits (f n)) → SaysFit (says_one f o)
unfolding says_one
one_fits f None h = tt
one_fits f (Some n) h = h n refl

event_fits : (f : ℕ → Event) → ((n : ℕ) → calls_on (line.Plain (f n)) ≡ []) → (w : List ℕ) → SaysFit (says_event f w)
unfolding says_event
event_fits f h w = one_fits (λ n. SaysLine (n ∷ []) (line.Plain (f n))) (node_word w) (λ n e. h n)

two_fits : (f : ℕ → ℕ → Line) → ((n m : ℕ) → calls_on (f n m) ≡ []) → (a b : List ℕ) → SaysFit (says_two f a b)
unfolding says_two
two_fits f h a b = then_fits _ _ (λ n e. then_fits _ _ (λ m g. h n m))

call_fits : (make : List ℕ → List ℕ → CallLine) → ((client group : List ℕ) → CallFits (make client group)) → (c g : List ℕ) → SaysFit (says_call make c g)
unfolding says_call
call_fits make h c g = then_fits _ _ (λ client e. then_fits _ _ (λ group f. h client group))

range_most : (low high k n : ℕ) → in_range low high k ≡ Some n → n ≤ high
unfolding in_range when_true
range_most low high k n e = by (nat_le low k && nat_le k high) refl e
  where
    by : (b : Bool) → (nat_le low k && nat_le k high) ≡ b → when_true (Some k) b ≡ Some n → n ≤ high
    by true f g = let same : k ≡ n = cc in subst (λ z. z ≤ high) same (leb-true k high (and_parts (nat_le low k) (nat_le k high) f).1)
    by false f g = absurd (cc)

-- a number is within its range
number_most : (low high : ℕ) (w : List ℕ) (n : ℕ) → number_word low high w ≡ Some n → n ≤ high
unfolding number_word
number_most low high w n e = by (not (is_empty w) && (list_all is_digit w && (not (has_needless_zero w) && nat_le (length w) 20))) e
  where
    by : (b : Bool) → ◌≡◌ {A = Option ℕ} (elim b [ true ↦ in_range low high (number_from 0 w) | false ↦ None ]) (Some n) → n ≤ high
    by true f = range_most low high (number_from 0 w) n f
    by false f = absurd (cc)

some_bind : {X : Type 0} (o : Option X) (u v : Votes) → (o >>= λ x. Some u) ≡ Some v → (is_some o ≡ true) × (u ≡ v)
unfolding ◌>>=◌
some_bind None u v e = absurd (cc)
some_bind (Some x) u v e = let same : u ≡ v = cc in (refl, same)

votes_fit : (w : List ℕ) (v : Votes) → client_votes w ≡ Some v → VotesFit v
unfolding client_votes scripted
votes_fit w v e = by (bytes_eq w boxed_word) refl e
  where
    by : (b : Bool) → bytes_eq w boxed_word ≡ b → ◌≡◌ {A = Option Votes} (elim b [ true ↦ Some Boxed | false ↦ scripted w ]) (Some v) → VotesFit v
    by true f g = let same : Boxed ≡ v = cc in subst VotesFit same tt
    by false f g = let p = some_bind (votes_word w) (Scripted w) v g in subst VotesFit p.1 (f, p.0)

said_fits : (h : Head) (ws : List (List ℕ)) → SaysFit (said h ws)
unfolding said calls_on is_placed is_boxed
said_fits HMode (w ∷ []) = then_fits _ _ (λ m e. tt)
said_fits HNode (w ∷ []) = one_fits _ _ (λ n e. tt)
said_fits HAdapter (a ∷ b ∷ c ∷ []) = then_fits _ _ (λ n e. then_fits _ _ (λ network f. then_fits _ _ (λ address g. tt)))
said_fits HHb (a ∷ b ∷ []) = then_fits _ _ (λ f e. then_fits _ _ (λ s g. tt))
said_fits HPort (w ∷ []) = one_fits SaysPort (number_word 1 65000 w) (λ n e. number_most 1 65000 w n e)
said_fits HLevel (a ∷ b ∷ []) = then_fits _ _ (λ n e. then_fits _ _ (λ j f. tt))
said_fits HDomain (w ∷ []) = one_fits _ _ (λ n e. tt)
said_fits HBegin [] = tt
said_fits HStart (w ∷ []) = event_fits event.Start (λ n. refl) w
said_fits HStop (w ∷ []) = event_fits event.Stop (λ n. refl) w
said_fits HTick (w ∷ []) = event_fits event.Tick (λ n. refl) w
said_fits HAsk (w ∷ ws) = then_fits _ _ (λ n e. then_fits _ _ (λ ms f. refl))
said_fits HRun (w ∷ []) = one_fits _ _ (λ n e. refl)
said_fits HDeliver (a ∷ b ∷ c ∷ []) = then_fits _ _ (λ k e. two_fits (λ n m. line.Plain (event.Deliver n m k)) (λ n m. refl) a b)
said_fits HDrop (a ∷ b ∷ []) = two_fits line.Drop (λ n m. refl) a b
said_fits HFlow [] = refl
said_fits HCut (a ∷ b ∷ []) = two_fits (λ n m. line.Cut n m None) (λ n m. refl) a b
said_fits HCut (a ∷ b ∷ c ∷ []) = then_fits _ _ (λ network e. two_fits (λ n m. line.Cut n m (Some network)) (λ n m. refl) a b)
said_fits HHeal (a ∷ b ∷ []) = two_fits (λ n m. line.Heal n m None) (λ n m. refl) a b
said_fits HHeal (a ∷ b ∷ c ∷ []) = then_fits _ _ (λ network e. two_fits (λ n m. line.Heal n m (Some network)) (λ n m. refl) a b)
said_fits HGarbage (a ∷ b ∷ []) = then_fits _ _ (λ bytes e. event_fits (λ n. event.Garbage n bytes) (λ n. refl) a)
said_fits HShow (a ∷ b ∷ []) = then_fits _ _ (λ what e. event_fits (λ n. event.Show n what) (λ n. refl) a)
said_fits HClient (a ∷ b ∷ c ∷ []) = then_fits _ _ (λ n e. then_fits _ _ (λ name f. then_fits _ _ (λ votes g. votes_fit c votes g)))
said_fits HJoin (c ∷ g ∷ i ∷ ws) = then_fits _ _ (λ instance e. then_fits _ _ (λ attrs f. call_fits (λ client group. call.Join client group instance attrs) (λ client group. record { placed = λ n. refl; unboxed = refl }) c g))
said_fits HLeave (c ∷ g ∷ ph ∷ []) = then_fits _ _ (λ phases e. call_fits (λ client group. call.Leave client group phases) (λ client group. record { placed = λ n. refl; unboxed = refl }) c g)
said_fits HExpel (c ∷ g ∷ ph ∷ ws) = then_fits _ _ (λ phases e. then_fits _ _ (λ out f. call_fits (λ client group. call.Expel client group phases out) (λ client group. record { placed = λ n. refl; unboxed = refl }) c g))
said_fits HState (c ∷ g ∷ ph ∷ t ∷ []) = then_fits _ _ (λ phases e. then_fits _ _ (λ value f. call_fits (λ client group. call.ChangeState client group phases value) (λ client group. record { placed = λ n. refl; unboxed = refl }) c g))
said_fits HMessage (c ∷ g ∷ ph ∷ t ∷ []) = then_fits _ _ (λ phases e. then_fits _ _ (λ bytes f. call_fits (λ client group. call.SendMessage client group phases bytes) (λ client group. record { placed = λ n. refl; unboxed = refl }) c g))
said_fits HAttrs (c ∷ g ∷ ph ∷ ws) = then_fits _ _ (λ phases e. then_fits _ _ (λ attrs f. call_fits (λ client group. call.ChangeAttributes client group phases attrs) (λ client group. record { placed = λ n. refl; unboxed = refl }) c g))
said_fits HVote (c ∷ g ∷ v ∷ []) = then_fits _ _ (λ item e. call_fits (λ client group. call.Vote client group item.vote item.value) (λ client group. record { placed = λ n. refl; unboxed = refl }) c g)
said_fits HSubscribe (c ∷ g ∷ []) = call_fits (λ client group. call.Subscribe client group) (λ client group. record { placed = λ n. refl; unboxed = refl }) c g
said_fits HUnsubscribe (c ∷ g ∷ []) = call_fits (λ client group. call.Unsubscribe client group) (λ client group. record { placed = λ n. refl; unboxed = refl }) c g
said_fits HGoodbye (c ∷ []) = then_fits _ _ (λ client e. record { placed = λ n. refl; unboxed = refl })
said_fits _ _ = tt

-- ---- what has been read

abbrev ModeFits : Aim → Mode → Type 0
ModeFits Plays m = Unit {0}
ModeFits (Serves me objects) m = m ≡ Rings
ModeFits (Asks me) m = m ≡ Rings

-- the lines, and how many objects are left
record LinesServe (me objects : ℕ) (ls : List Line) (left : ℕ) : Type 0 where
  calls : list_all (may_serve me) ls ≡ true
  boxed : length (flat_map (boxed_on me) ls) + left ≡ objects

abbrev LinesFit : Aim → List Line → ℕ → Type 0
LinesFit (Serves me objects) ls left = LinesServe me objects ls left
LinesFit _ ls left = Unit {0}

abbrev one_if : Bool → ℕ
one_if b = if b then 1 else 0

record Fine (aim : Aim) (r : Reading) : Type 0 where
  aims : r.aim ≡ aim
  mode : ModeFits aim r.config.mode
  port : r.config.port ≤ 65000
  own : r.begun ≡ true → list_all (has_node r.config.nodes) (own_nodes aim) ≡ true
  shared : r.begun ≡ true → all_share (settled r) ≡ true
  lines : LinesFit aim r.lines r.left
  texts : length r.texts + one_if r.has_call ≡ length (flat_map calls_on r.lines)

-- between two lines
record Rested (aim : Aim) (r : Reading) : Type 0 where
  fine : Fine aim r
  kept : r.has_call ≡ false

mode_fits : (aim : Aim) (r : Reading) (m : Mode) → misplaced_for r aim (SaysMode m) ≡ false → ModeFits aim m
unfolding misplaced_for misplaced_served misplaced_asked
mode_fits Plays r m e = tt
mode_fits (Serves me objects) r Fixed e = absurd (cc)
mode_fits (Serves me objects) r Asked e = absurd (cc)
mode_fits (Serves me objects) r Rings e = refl
mode_fits (Asks me) r Fixed e = absurd (cc)
mode_fits (Asks me) r Asked e = absurd (cc)
mode_fits (Asks me) r Rings e = refl

not_false : (b : Bool) → not b ≡ false → b ≡ true
not_false true e = refl
not_false false e = absurd (cc)

or_true : (b : Bool) → (b || true) ≡ true
or_true true = refl
or_true false = refl

both : (a b : Bool) → a ≡ true → b ≡ true → (a && b) ≡ true
both true true e f = refl
both true false e f = absurd (cc)
both false b e f = absurd (cc)

-- the bytes of a call that was taken are still to be kept
one_more : (r : Reading) → length r.texts + one_if r.has_call ≡ length (flat_map calls_on r.lines) → r.has_call ≡ false → (n : ℕ) (c : CallLine)
    → length r.texts + 1 ≡ length (flat_map calls_on (line.Plain (event.Call n c) ∷ r.lines))
unfolding calls_on
one_more r t e n c =
    let u : length r.texts + 0 ≡ length (flat_map calls_on r.lines) = subst (λ b. length r.texts + one_if b ≡ length (flat_map calls_on r.lines)) e t in
    omega (arith, u)

-- which of a line's calls take an object
boxed_count : (me n : ℕ) (name : List ℕ) → length (boxed_on me (line.Plain (event.Call n (Init n name boxed_word)))) ≡ one_if (n == me)
unfolding boxed_on own_on is_boxed
boxed_count me n name = by (n == me)
  where
    by : (a : Bool) → length (filter is_boxed (if a then Init n name boxed_word ∷ [] else [])) ≡ one_if a
    by true = refl
    by false = refl

unboxed_count : (me n : ℕ) (c : CallLine) → is_boxed c ≡ false → length (boxed_on me (line.Plain (event.Call n c))) ≡ 0
unfolding boxed_on own_on
unboxed_count me n c e = by (n == me)
  where
    by : (a : Bool) → length (filter is_boxed (if a then c ∷ [] else [])) ≡ 0
    by true = ap (λ b. length (cond b (c ∷ []) [])) e
    by false = refl

-- an own client takes one of the objects that are left
left_counts : (me objects n left : ℕ) → boxed_reason (Serves me objects) n left ≡ None → one_if (n == me) + left_after (Serves me objects) n Boxed left ≡ left
unfolding boxed_reason left_after
left_counts me objects n left e = by (n == me) (left == 0) refl e
  where
    by : (a b : Bool) → (left == 0) ≡ b → ◌≡◌ {A = Option LineWhy} (if a && b then Some BoxedClient else None) None → one_if a + (if a then left - 1 else left) ≡ left
    by true true z f = absurd (cc)
    by true false z f = grind (arith, nat_tests, z)
    by false b z f = omega arith

unboxed : (n : ℕ) (name w : List ℕ) → bytes_eq w boxed_word ≡ false → is_boxed (Init n name w) ≡ false
unfolding is_boxed
unboxed n name w e = e

left_same : (me objects n left : ℕ) (w : List ℕ) → left_after (Serves me objects) n (Scripted w) left ≡ left
unfolding left_after
left_same me objects n left w = refl

client_counts : (me objects n : ℕ) (name : List ℕ) (votes : Votes) (left : ℕ) → VotesFit votes → (votes ≡ Boxed → boxed_reason (Serves me objects) n left ≡ None)
    → length (boxed_on me (line.Plain (event.Call n (Init n name (votes_said votes))))) + left_after (Serves me objects) n votes left ≡ left
unfolding votes_said
client_counts me objects n name Boxed left fit free = omega (arith, boxed_count me n name, left_counts me objects n left (free refl))
client_counts me objects n name (Scripted w) left fit free = omega (arith, unboxed_count me n (Init n name w) (unboxed n name w fit.0), left_same me objects n left w)

client_serves : (me n : ℕ) (name : List ℕ) (votes : Votes) → VotesFit votes → may_serve me (line.Plain (event.Call n (Init n name (votes_said votes)))) ≡ true
unfolding may_serve is_placed is_carried votes_said
client_serves me n name votes fit = both (n == n && (bytes_eq (votes_said votes) boxed_word || is_some (votes_word (votes_said votes)))) (not (n == me) || true) (both (n == n) _ (eq-eqb n n refl) (words votes fit)) (or_true (not (n == me)))
  where
    words : (v : Votes) → VotesFit v → (bytes_eq (votes_said v) boxed_word || is_some (votes_word (votes_said v))) ≡ true
    words Boxed f = refl
    words (Scripted w) f = ap (λ b. bytes_eq w boxed_word || b) f.1 ∙ or_true (bytes_eq w boxed_word)

call_serves : (me n : ℕ) (c : CallLine) → CallFits c → (n == me && not (is_carried c)) ≡ false → may_serve me (line.Plain (event.Call n c)) ≡ true
unfolding may_serve
call_serves me n c fit e = both (is_placed n c) (not (n == me) || is_carried c) (fit.placed n) (by (n == me) (is_carried c) e)
  where
    by : (a b : Bool) → (a && not b) ≡ false → (not a || b) ≡ true
    by true true f = refl
    by true false f = absurd (cc)
    by false b f = refl

-- a line more
serves_more : (me objects : ℕ) (l : Line) (ls : List Line) (old new : ℕ) → LinesServe me objects ls old → may_serve me l ≡ true → length (boxed_on me l) + new ≡ old → LinesServe me objects (l ∷ ls) new
serves_more me objects l ls old new h may count = record {
  calls = both (may_serve me l) (list_all (may_serve me) ls) may h.calls;
  boxed = omega (arith, h.boxed, count, length-append (boxed_on me l) (flat_map (boxed_on me) ls));
}

client_lines : (aim : Aim) (r : Reading) (n : ℕ) (name : List ℕ) (votes : Votes) → r.aim ≡ aim → VotesFit votes → last_reason r (SaysClient n name votes) ≡ None → LinesFit aim r.lines r.left
    → LinesFit aim (line.Plain (event.Call n (Init n name (votes_said votes))) ∷ r.lines) (left_after aim n votes r.left)
unfolding last_reason
client_lines Plays r n name votes e fit last h = tt
client_lines (Serves me objects) r n name votes e fit last h =
    serves_more me objects (line.Plain (event.Call n (Init n name (votes_said votes)))) r.lines r.left (left_after (Serves me objects) n votes r.left) h (client_serves me n name votes fit) (client_counts me objects n name votes r.left fit (λ boxed. free votes boxed last))
  where
    free : (v : Votes) → v ≡ Boxed → last_reason r (SaysClient n name v) ≡ None → boxed_reason (Serves me objects) n r.left ≡ None
    free Boxed b f = subst (λ a. boxed_reason a n r.left ≡ None) e f
    free (Scripted w) b f = absurd (cc)
client_lines (Asks me) r n name votes e fit last h = tt

call_lines : (aim : Aim) (r : Reading) (client : List ℕ) (c : CallLine) → CallFits c → misplaced_for r aim (SaysCall client c) ≡ false → LinesFit aim r.lines r.left
    → LinesFit aim (line.Plain (event.Call (node_of_client (find (is_client client) r.clients)) c) ∷ r.lines) r.left
unfolding misplaced_for misplaced_served
call_lines Plays r client c fit place h = tt
call_lines (Serves me objects) r client c fit place h =
    let n : ℕ = node_of_client (find (is_client client) r.clients) in
    serves_more me objects (line.Plain (event.Call n c)) r.lines r.left r.left h (call_serves me n c fit place) (omega (arith, unboxed_count me n c fit.unboxed))
call_lines (Asks me) r client c fit place h = tt

other_lines : (aim : Aim) (r : Reading) (ns : List ℕ) (l : Line) → misplaced_for r aim (SaysLine ns l) ≡ false → LinesFit aim r.lines r.left → LinesFit aim (l ∷ r.lines) r.left
unfolding misplaced_for misplaced_served
other_lines Plays r ns l place h = tt
other_lines (Serves me objects) r ns l place h = absurd (cc)
other_lines (Asks me) r ns l place h = tt

-- before `begin` nothing is asked of what follows it
none_yet : {X : Type 0} (b : Bool) → b ≡ false → b ≡ true → X
none_yet b e f = absurd (let both_are : true ≡ false = sym f ∙ e in cc)

-- a setting
set_fine : (aim : Aim) (r q : Reading) → Rested aim r → q.aim ≡ r.aim → ModeFits aim q.config.mode → q.config.port ≤ 65000 → r.begun ≡ false → q.begun ≡ r.begun → q.lines ≡ r.lines → q.left ≡ r.left → q.texts ≡ r.texts → q.has_call ≡ r.has_call → Fine aim q
set_fine aim r q f a mode port b begun lines left texts has = record {
  aims = a ∙ f.fine.aims;
  mode = mode;
  port = port;
  own = λ e. none_yet q.begun (begun ∙ b) e;
  shared = λ e. none_yet q.begun (begun ∙ b) e;
  lines = subst (λ ls. LinesFit aim ls q.left) (sym lines) (subst (λ k. LinesFit aim r.lines k) (sym left) f.fine.lines);
  texts = subst (λ ts. length ts + one_if q.has_call ≡ length (flat_map calls_on q.lines)) (sym texts) (subst (λ h. length r.texts + one_if h ≡ length (flat_map calls_on q.lines)) (sym has) (subst (λ ls. length r.texts + one_if r.has_call ≡ length (flat_map calls_on ls)) (sym lines) f.fine.texts));
}

shares : (r : Reading) (b : Bool) → all_share (settled r) ≡ b → ◌≡◌ {A = Option LineWhy} (elim b [ true ↦ None | false ↦ Some NoSharedNetwork ]) None → all_share (settled r) ≡ true
shares r true e f = e
shares r false e f = absurd (cc)

taken_fine : (aim : Aim) (r : Reading) (x : Said) → Rested aim r → SaidFits x → Reasonless r x → Fine aim (taken r x)
unfolding taken misplaced with_config with_address with_line with_call with_client last_reason nodes_said settled
taken_fine aim r (SaysMode m) f fit h =
    set_fine aim r (taken r (SaysMode m)) f refl (mode_fits aim r m (subst (λ a. misplaced_for r a (SaysMode m) ≡ false) f.fine.aims h.fits)) f.fine.port (or_parts r.begun _ h.placed).0 refl refl refl refl refl
taken_fine aim r (SaysNode n) f fit h = set_fine aim r (taken r (SaysNode n)) f refl f.fine.mode f.fine.port (or_parts r.begun _ h.placed).0 refl refl refl refl refl
taken_fine aim r (SaysAdapter n network address) f fit h = set_fine aim r (taken r (SaysAdapter n network address)) f refl f.fine.mode f.fine.port (or_parts r.begun _ h.placed).0 refl refl refl refl refl
taken_fine aim r (SaysHb a b) f fit h = set_fine aim r (taken r (SaysHb a b)) f refl f.fine.mode f.fine.port (or_parts r.begun _ h.placed).0 refl refl refl refl refl
taken_fine aim r (SaysPort p) f fit h = set_fine aim r (taken r (SaysPort p)) f refl f.fine.mode fit (or_parts r.begun _ h.placed).0 refl refl refl refl refl
taken_fine aim r (SaysLevel n inc) f fit h = set_fine aim r (taken r (SaysLevel n inc)) f refl f.fine.mode f.fine.port (or_parts r.begun _ h.placed).0 refl refl refl refl refl
taken_fine aim r (SaysDomain d) f fit h = set_fine aim r (taken r (SaysDomain d)) f refl f.fine.mode f.fine.port (or_parts r.begun _ h.placed).0 refl refl refl refl refl
taken_fine aim r SaysBegin f fit h = record {
  aims = f.fine.aims;
  mode = f.fine.mode;
  port = f.fine.port;
  own = λ e. subst (λ a. list_all (has_node r.config.nodes) (own_nodes a) ≡ true) f.fine.aims h.nodes;
  shared = λ e. shares r (all_share (settled r)) refl h.last;
  lines = f.fine.lines;
  texts = f.fine.texts;
}
taken_fine aim r (SaysLine ns l) f fit h = record {
  aims = f.fine.aims;
  mode = f.fine.mode;
  port = f.fine.port;
  own = f.fine.own;
  shared = f.fine.shared;
  lines = other_lines aim r ns l (subst (λ a. misplaced_for r a (SaysLine ns l) ≡ false) f.fine.aims h.fits) f.fine.lines;
  texts = f.fine.texts ∙ ap (λ cs. length (cs ++ flat_map calls_on r.lines)) (sym fit);
}
taken_fine aim r (SaysClient n name votes) f fit h = record {
  aims = f.fine.aims;
  mode = f.fine.mode;
  port = f.fine.port;
  own = f.fine.own;
  shared = f.fine.shared;
  lines = subst (λ a. LinesFit aim (line.Plain (event.Call n (Init n name (votes_said votes))) ∷ r.lines) (left_after a n votes r.left)) (sym f.fine.aims) (client_lines aim r n name votes f.fine.aims fit h.last f.fine.lines);
  texts = one_more r f.fine.texts f.kept n (Init n name (votes_said votes));
}
taken_fine aim r (SaysCall client c) f fit h = record {
  aims = f.fine.aims;
  mode = f.fine.mode;
  port = f.fine.port;
  own = f.fine.own;
  shared = f.fine.shared;
  lines = call_lines aim r client c fit (subst (λ a. misplaced_for r a (SaysCall client c) ≡ false) f.fine.aims h.fits) f.fine.lines;
  texts = one_more r f.fine.texts f.kept (node_of_client (find (is_client client) r.clients)) c;
}

says_fit : (aim : Aim) (r : Reading) (h : Head) (ws : List (List ℕ)) (x : Said) → said h ws ≡ Some x → reason r x ≡ None → Rested aim r → Fine aim (taken r x)
says_fit aim r h ws x e none f = taken_fine aim r x f (subst SaysFit e (said_fits h ws)) (reasonless r x none)

text_kept : (r : Reading) (bytes : List ℕ) → length r.texts + one_if r.has_call ≡ length (flat_map calls_on r.lines) → r.has_call ≡ true → length (bytes ∷ r.texts) + 0 ≡ length (flat_map calls_on r.lines)
text_kept r bytes t e =
    let u : length r.texts + 1 ≡ length (flat_map calls_on r.lines) = subst (λ b. length r.texts + one_if b ≡ length (flat_map calls_on r.lines)) e t in
    omega (arith, u)

texts_fit : (aim : Aim) (r : Reading) (bytes : List ℕ) → Fine aim r → Rested aim (with_text r bytes r.has_call)
unfolding with_text settled
texts_fit aim r bytes f = by r.has_call refl
  where
    by : (b : Bool) → r.has_call ≡ b → Rested aim (with_text r bytes b)
    by true e = record {
      fine = record { aims = f.aims; mode = f.mode; port = f.port; own = f.own; shared = f.shared; lines = f.lines; texts = text_kept r bytes f.texts e };
      kept = refl;
    }
    by false e = record { fine = f; kept = e }

keeps_fine : (aim : Aim) → Keeps (Rested aim) (Fine aim)
keeps_fine aim = record {
  says = says_fit aim;
  rests = λ r f. f.fine;
  texts = texts_fit aim;
}

first_fine : (aim : Aim) → Rested aim (nothing_read aim)
unfolding nothing_read objects_of
first_fine aim = record {
  fine = record { aims = refl; mode = first_mode aim; port = leb-true 12347 65000 refl; own = λ e. absurd (cc); shared = λ e. absurd (cc); lines = first_lines aim; texts = refl };
  kept = refl;
}
  where
    first_mode : (a : Aim) → ModeFits a Rings
    first_mode Plays = tt
    first_mode (Serves me objects) = refl
    first_mode (Asks me) = refl

    first_lines : (a : Aim) → LinesFit a [] (objects_of a)
    first_lines Plays = tt
    first_lines (Serves me objects) = record { calls = refl; boxed = omega arith }
    first_lines (Asks me) = tt

-- ---- a whole script

all_turned : {X : Type 0} (p : X → Bool) (xs ys : List X) → list_all p xs ≡ true → list_all p ys ≡ true → list_all p (reverse_onto xs ys) ≡ true
all_turned p [] ys a b = b
all_turned p (x ∷ xs) ys a b = let q = and_parts (p x) (list_all p xs) a in all_turned p xs (x ∷ ys) q.1 (both (p x) (list_all p ys) q.0 b)

length_turned : {X Y : Type 0} (f : X → List Y) (xs ys : List X) → length (flat_map f (reverse_onto xs ys)) ≡ length (flat_map f xs) + length (flat_map f ys)
length_turned f [] ys = omega arith
length_turned f (x ∷ xs) ys =
    omega (arith, length_turned f xs (x ∷ ys), length-append (f x) (flat_map f ys), length-append (f x) (flat_map f xs))

length_back : {X : Type 0} (xs ys : List X) → length (reverse_onto xs ys) ≡ length xs + length ys
length_back [] ys = omega arith
length_back (x ∷ xs) ys = omega (arith, length_back xs (x ∷ ys))

-- the bytes of its calls are there, for whatever a script is read
pub has_texts : (aim : Aim) (bytes : List ℕ) (s : Script) → read_for aim bytes ≡ IsScript s → HasTexts s
unfolding calls_of script_in
has_texts aim bytes s e =
    let end : EndsWith (Rested aim) s = read_keeps (Rested aim) (Fine aim) (keeps_fine aim) aim bytes s (first_fine aim) e in
    subst HasTexts (sym end.is) (of end.last end.keeps)
  where
    of : (r : Reading) → Rested aim r → HasTexts (script_in r)
    of r f =
        let t : length r.texts + 0 ≡ length (flat_map calls_on r.lines) = subst (λ b. length r.texts + one_if b ≡ length (flat_map calls_on r.lines)) f.kept f.fine.texts in
        omega (arith, t, length_back r.texts [], length_turned calls_on r.lines [])

same_settings : (c : Config) (b : Bool) → ((settled_if c b).nodes ≡ c.nodes) × ((settled_if c b).mode ≡ c.mode) × ((settled_if c b).port ≡ c.port)
unfolding settled_if
same_settings c true = (refl, refl, refl)
same_settings c false = (refl, refl, refl)

node_fits : (aim : Aim) (me : ℕ) (r : Reading) → own_nodes aim ≡ me ∷ [] → (ModeFits aim r.config.mode → r.config.mode ≡ Rings) → Fine aim r → r.begun ≡ true → FitsNode (script_in r) me
unfolding script_in settled
node_fits aim me r own mode f begun =
    let same = same_settings r.config r.has_adapter in
    let is_own : list_all (has_node r.config.nodes) (me ∷ []) ≡ true = subst (λ ns. list_all (has_node r.config.nodes) ns ≡ true) own (f.own begun) in
    record {
      own = subst (λ ns. has_node ns me ≡ true) (sym same.0) (and_parts (has_node r.config.nodes me) true is_own).0;
      rings = same.1 ∙ mode f.mode;
      begun = begun;
      shared = f.shared begun;
      ports = omega (arith, same.2, f.port);
    }

fits_for : (me : ℕ) (objects : Option ℕ) (r : Reading) → Rested (aim_of me objects) r → lacks_begin (aim_of me objects) r.begun ≡ false → KeepsFor me objects (script_in r)
unfolding aim_of lacks_begin own_nodes own_boxed script_in
fits_for me (Some objects) r f begun =
    let lines : LinesServe me objects r.lines r.left = f.fine.lines in
    record {
      fits = node_fits (Serves me objects) me r refl (λ m. m) f.fine (not_false r.begun begun);
      calls = all_turned (may_serve me) r.lines [] lines.calls refl;
      boxed = count r lines;
    }
  where
    count : (q : Reading) → LinesServe me objects q.lines q.left → length (own_boxed me (script_in q)) ≤ objects
    count q h = omega (arith, h.boxed, length_turned (boxed_on me) q.lines [])
fits_for me None r f begun = node_fits (Asks me) me r refl (λ m. m) f.fine (not_false r.begun begun)

-- what is read as settings keeps their rules
pub settings_fit : (me : ℕ) (objects : Option ℕ) (bytes : List ℕ) (s : Script) → daemon_script me objects bytes ≡ IsScript s → KeepsFor me objects s
unfolding daemon_script
settings_fit me objects bytes s e =
    let aim : Aim = aim_of me objects in
    let end : EndsWith (Rested aim) s = read_keeps (Rested aim) (Fine aim) (keeps_fine aim) aim bytes s (first_fine aim) e in
    subst (KeepsFor me objects) (sym end.is) (fits_for me objects end.last end.keeps (subst (λ a. lacks_begin a end.last.begun ≡ false) end.keeps.fine.aims end.begun))
