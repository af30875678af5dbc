-- Who asks first in the sample run, and who leads it.
use Rattle.std.proofs.Common.{◌≡◌, ◌⊎◌, ℕ, Bool, List, [], ◌∷◌, ◌++◌, Option, Some, None, true, false, refl, sym, ap, ◌∙◌, subst, inl, inr}
use Rattle.std.specs.Prelude.{fold, drop, is_some}
use Rattle.std.specs.List.{list_any}
use Rattle.rsct_packet.specs.declared.ids.ViewId.{ViewId}
use Rattle.node_state.specs.declared.config.Config.{Config}
use Rattle.node_state.specs.declared.happened.Happened.{Happened}
use Rattle.node_state.specs.declared.happened.Happened.TheVariants.{Put}
use Rattle.node_state.specs.declared.call.CallLine.{CallLine}
use Rattle.rsct_packet.specs.declared.mask.Mask.{Mask}
use Rattle.node_state.specs.declared.packet.Body.{Body}
use Rattle.node_state.specs.declared.packet.Body.TheVariants.{Lookup}
use Rattle.node_state.specs.declared.packet.Packet.{Packet}
use Rattle.node_state.specs.declared.state.Core.{Core}
use Rattle.node_state.specs.Step.{started}
use Rattle.world_model.specs.declared.event.Event.{Event}
use Rattle.world_model.specs.declared.event.Event.TheVariants.{Start, Ask, Call, Deliver}
use Rattle.world_model.specs.World.{World, kth_between, world_new, happens}
use Rattle.run_safety.specs.Past.{EachRecord, records_of}
use Rattle.run_safety.proofs.Tests.{has_any}
use Rattle.entry_laws.specs.source_order.Sources.{PutBefore}
use Rattle.world_laws.specs.world_answers.Answers.{Answered, goes_on, answered_after, worded, worded_from, all_worded}
use Rattle.world_safety.specs.Mirrors.{core_at}
use Rattle.world_safety.specs.Askers.{LooksUp, FirstAsks, RecordLed}
use Rattle.world_safety.specs.Samples.{history_after, core_or, core_after, db, two, two_view, lookup_of, until_asked, asks_first, second_leads, first_leads, two_ask, second_led, first_led}
use Rattle.world_safety.specs.Opens.{all_opens}

pub second_led_is : history_after two (two_ask second_leads) ≡ second_led
unfolding all_opens
second_led_is = refl

-- ---- who asks first

abbrev is_look : Body → Bool
is_look (Lookup v g) = true
is_look _ = false

abbrev is_lookup : Option Packet → Bool
is_lookup None = false
is_lookup (Some p) = is_look p.body

-- another packet is given
other_given : (w : World) (v : ViewId) (g : List ℕ) (a b k : ℕ) → is_lookup (kth_between w a b k) ≡ false → (asker : ℕ) → LooksUp w (Deliver a b k) v g asker → ⊥
other_given w v g a b k other asker l =
    let e : Deliver a b k ≡ Deliver l.sender v.coord l.number = l.happens in
    let from : a ≡ l.sender = cc in
    let to : b ≡ v.coord = cc in
    let number : k ≡ l.number = cc in
    let looks : is_lookup (kth_between w a b k) ≡ true = (λ i. is_lookup (kth_between w (from i) (to i) (number i))) ∙ ap is_lookup l.given ∙ ap is_look l.looks_up in
    let clash : false ≡ true = sym other ∙ looks in absurd (cc)

start_given : (w : World) (v : ViewId) (g : List ℕ) (n asker : ℕ) → LooksUp w (Start n) v g asker → ⊥
start_given w v g n asker l = let e : Start n ≡ Deliver l.sender v.coord l.number = l.happens in absurd (cc)

ask_given : (w : World) (v : ViewId) (g : List ℕ) (n : ℕ) (mask : Mask) (asker : ℕ) → LooksUp w (Ask n mask) v g asker → ⊥
ask_given w v g n mask asker l = let e : Ask n mask ≡ Deliver l.sender v.coord l.number = l.happens in absurd (cc)

call_given : (w : World) (v : ViewId) (g : List ℕ) (n : ℕ) (c : CallLine) (asker : ℕ) → LooksUp w (Call n c) v g asker → ⊥
call_given w v g n c asker l = let e : Call n c ≡ Deliver l.sender v.coord l.number = l.happens in absurd (cc)

-- in none of these events the coordinator takes a LOOKUP
abbrev NoneAsks : ViewId → List ℕ → World → List Answered → Type 0
NoneAsks v g w [] = Unit {0}
NoneAsks v g w (e ∷ es) = ((asker : ℕ) → LooksUp w e.event v g asker → ⊥) × NoneAsks v g (goes_on w e) es

none_asks : (v : ViewId) (g : List ℕ) (es before rest : List Answered) (w : World) (e : Answered) (asker : ℕ) → NoneAsks v g w es → es ≡ before ++ e ∷ rest → LooksUp (fold goes_on w before) e.event v g asker → ⊥
none_asks v g [] [] rest w e asker k at l = absurd (cc)
none_asks v g [] (x ∷ before) rest w e asker k at l = absurd (cc)
none_asks v g (y ∷ es) [] rest w e asker k at l =
    let same : e ≡ y = cc in k.0 asker (subst (λ (z : Answered). LooksUp w z.event v g asker) same l)
none_asks v g (y ∷ es) (x ∷ before) rest w e asker k at l =
    let same : x ≡ y = cc in
    let tail : es ≡ before ++ e ∷ rest = cc in
    none_asks v g es before rest (goes_on w y) e asker k.1 tail (subst (λ z. LooksUp (fold goes_on (goes_on w z) before) e.event v g asker) same l)

nobody_asked : NoneAsks two_view db (world_new two) (all_worded two until_asked)
unfolding all_opens
nobody_asked =
    (start_given _ _ _ 1, (start_given _ _ _ 2, (ask_given _ _ _ 1 _, (other_given _ two_view db 1 2 1 refl, (other_given _ two_view db 2 1 1 refl, (other_given _ two_view db 1 2 2 refl, (call_given _ _ _ 2 _, (call_given _ _ _ 2 _, tt))))))))

-- an event among others, with what the clients answer
pub worded_at : (w : World) (xs ys : List Event) (e : Event) → worded_from w (xs ++ e ∷ ys) ≡ worded_from w xs ++ worded (fold happens w xs) e ∷ worded_from (happens (fold happens w xs) e) ys
worded_at w [] ys e = refl
worded_at w (x ∷ xs) ys e = ap (λ l. worded w x ∷ l) (worded_at (happens w x) xs ys e)

-- a node that is up then
pub there : (c : Config) (es : List Event) (n : ℕ) → is_some (core_at (answered_after c (all_worded c es)).nodes n) ≡ true → core_at (answered_after c (all_worded c es)).nodes n ≡ Some (core_after c es n)
unfolding core_after
there c es n e = by (core_at (answered_after c (all_worded c es)).nodes n) e
  where
    by : (o : Option Core) → is_some o ≡ true → o ≡ Some (core_or (started c n 1) o)
    by None q = absurd (cc)
    by (Some s) q = refl

second_node_asks_first : (then : List Event) → FirstAsks two (all_worded two (two_ask then)) two_view db 2
unfolding all_opens
second_node_asks_first then =
    record {
      before = all_worded two until_asked;
      event = worded (fold happens (world_new two) until_asked) asks_first;
      rest = worded_from (happens (fold happens (world_new two) until_asked) asks_first) then;
      at = worded_at (world_new two) until_asked then asks_first;
      asks = record { coordinator = core_after two until_asked 1; up = there two until_asked 1 refl; coordinates_it = refl; sender = 2; number = 3; happens = refl; packet = lookup_of 2; given = refl; to = refl; from = refl; looks_up = refl; used = refl };
      first = λ k. none_asks two_view db (all_worded two until_asked) k.before k.rest (world_new two) k.event k.asker nobody_asked k.at k.asks;
    }

pub second_asks_and_leads : FirstAsks two (all_worded two (two_ask second_leads)) two_view db 2
second_asks_and_leads = second_node_asks_first second_leads

pub second_asks_and_first_leads : FirstAsks two (all_worded two (two_ask first_leads)) two_view db 2
second_asks_and_first_leads = second_node_asks_first first_leads

-- ---- who leads

pub second_node_leads : EachRecord (RecordLed 2 two_view db) second_led
unfolding all_opens
second_node_leads =
    (((λ u h. inr (2, _, inr (inl refl))), tt), ((tt, ((λ u h. inl refl), tt)), (tt, (tt, ((tt, tt), (tt, (tt, ((tt, tt), (tt, ((tt, tt), ((tt, tt), (tt, (tt, ((tt, (tt, tt)), ((tt, (tt, tt)), tt)))))))))))))))

abbrev is_put : Happened → Bool
is_put (Put m v g i e) = true
is_put _ = false

pub first_node_leads : EachRecord (RecordLed 2 two_view db) first_led → ⊥
unfolding all_opens
first_node_leads k = by (k.1.0.0 refl refl)
  where
    rs : List Happened
    rs = records_of (drop 2 first_led)

    by : (◌≡◌ {A = ℕ} 1 2) ⊎ PutBefore rs two_view db 0 → ⊥
    by (inl e) = absurd (cc)
    by (inr p) = let none : list_any is_put rs ≡ false = refl in let clash : true ≡ false = sym (has_any is_put rs (Put p.0 two_view db 0 p.1) p.2 refl) ∙ none in absurd (cc)
