-- The doings of a life, and fronts of them.
use Rattle.std.proofs.Common.{◌≡◌, if◌then◌else◌, ℕ, zero, suc, ◌+◌, Bool, true, false, List, [], ◌∷◌, ◌++◌, length, map, refl, sym, ◌∙◌, ap, ap₂, inl, inr, arith}
use Rattle.std.proofs.lemmas.Grind.{flat_map-append}
use Rattle.hags_io.specs.declared.link.LinkCall.{LinkCall}
use Rattle.hags_io.specs.declared.link.LinkCall.TheVariants as call
use Rattle.hags_io.specs.declared.link.Places.{Places}
use Rattle.hags_io.specs.Deeds.{Deed, Read, Placed, Opened, Exchanged, Wrote}
use Rattle.hags_io.specs.Telling.{calls_in, placed_by}
use Rattle.hags_io.specs.Fronts.{as_gone, FailsAt, AreFront}
use Rattle.hags_io.specs.Places.{with_place}
use Rattle.hags_io.proofs.DeedLaws.{placed_append}
use Rattle.hags_io.proofs.FrontLaws.{front_of_front}
use Rattle.node_state.specs.declared.config.Config.{Config}
use Rattle.node_state.specs.declared.happened.Happened.{Happened}
use Rattle.node_state.specs.Settings.{has_adapter, address_at}
use Rattle.world_model.specs.Text.{line_of}
use Rattle.daemon_model.specs.Sent.{Exchange, call_of, as_sent, AllSpelled}
use Rattle.daemon_model.specs.Daemon.{records_text}
use Rattle.daemon_model.specs.Doings.{Doing, Reads, Exchanges, Writes, deed_of, exchanges_in, records_in, AreSpelled}
use Rattle.daemon_model.specs.Settings.{place_told, places_on, places_upto, all_places, placing, placings_on, placings_upto, placings}
use Rattle.daemon_model.specs.Laws.{LivesAreDoings, FrontsOfFronts, wrote_in, DoneWhole, WrittenFirst, FrontsExchange, PlacingsArePlaces}
use Rattle.daemon_model.proofs.AddLaws.{exchanges_append, life_shares}

pub lives_are_doings : LivesAreDoings
lives_are_doings c me incarnation life = let h = life_shares c me incarnation life in (h.calls, h.records)

pub fronts_of_fronts : FrontsOfFronts
fronts_of_fronts deeds later doings h = front_of_front deeds later doings h

-- ---- what is written first

text_append : (xs ys : List Happened) → records_text (xs ++ ys) ≡ records_text xs ++ records_text ys
unfolding records_text
text_append xs ys = flat_map-append line_of xs ys

no_text : records_text [] ≡ []
unfolding records_text
no_text = refl

gone_wrote : (d : Deed) (ds : List Deed) → wrote_in (as_gone d ∷ ds) ≡ wrote_in (d ∷ ds)
gone_wrote (Read m) ds = refl
gone_wrote (Placed n k a p) ds = refl
gone_wrote (Opened p o) ds = refl
gone_wrote (Exchanged (call.Received k b)) ds = refl
gone_wrote (Exchanged call.Quiet) ds = refl
gone_wrote (Exchanged call.Failed) ds = refl
gone_wrote (Exchanged (call.Sent n k b o)) ds = refl
gone_wrote (Wrote b w) ds = refl

wrote_next : (x : Doing) (ds : List Deed) (front : List Doing) → wrote_in ds ≡ records_text (records_in front) → wrote_in (deed_of x ∷ ds) ≡ records_text (records_in (x ∷ front))
wrote_next (Reads m) ds front h = h
wrote_next (Exchanges x) ds front h = h
wrote_next (Writes rs) ds front h = ap (λ t. records_text rs ++ t) h ∙ sym (text_append rs (records_in front))

pub written_first : WrittenFirst
written_first [] later next doings h = record { front = []; back = doings; whole = refl; are = refl; written = sym no_text }
written_first (d ∷ ds) later next [] h = absurd h
written_first (d ∷ ds) later next (x ∷ doings) (inl h) =
    let r : DoneWhole ds doings = written_first ds later next doings h.1 in
    record {
      front = x ∷ r.front;
      back = r.back;
      whole = ap (λ t. x ∷ t) r.whole;
      are = ap₂ (λ y ys. y ∷ ys) h.0 r.are;
      written = sym (gone_wrote d ds) ∙ (ap (λ (y : Deed). wrote_in (y ∷ ds)) h.0 ∙ wrote_next x ds r.front r.written);
    }
written_first (d ∷ []) later next (x ∷ doings) (inr h) = let no : next ∷ later ≡ [] = h.1 in absurd cc
written_first (d ∷ e ∷ ds) later next (x ∷ doings) (inr h) = let no : e ∷ (ds ++ next ∷ later) ≡ [] = h.1 in absurd cc

-- ---- what was exchanged in a front

call_gone : (c : LinkCall) → as_gone (Exchanged c) ≡ Exchanged (as_sent c)
call_gone (call.Received k b) = refl
call_gone call.Quiet = refl
call_gone call.Failed = refl
call_gone (call.Sent n k b o) = refl

spelled_in : (xs : List Doing) → AreSpelled xs → AllSpelled (exchanges_in xs)
spelled_in [] h = tt
spelled_in (Reads m ∷ xs) h = spelled_in xs h
spelled_in (Exchanges x ∷ xs) h = (h.0, spelled_in xs h.1)
spelled_in (Writes rs ∷ xs) h = spelled_in xs h

abbrev gone_call : Deed → List LinkCall
gone_call (Exchanged c) = as_sent c ∷ []
gone_call d = []

gone_calls : (d : Deed) (ds : List Deed) → map as_sent (calls_in (d ∷ ds)) ≡ gone_call d ++ map as_sent (calls_in ds)
gone_calls (Read m) ds = refl
gone_calls (Placed n k a p) ds = refl
gone_calls (Opened p o) ds = refl
gone_calls (Exchanged c) ds = refl
gone_calls (Wrote b w) ds = refl

sent_again : (c : LinkCall) → as_sent (as_sent c) ≡ as_sent c
sent_again (call.Received k b) = refl
sent_again call.Quiet = refl
sent_again call.Failed = refl
sent_again (call.Sent n k b o) = refl

gone_gone : (d : Deed) → gone_call (as_gone d) ≡ gone_call d
gone_gone (Read m) = refl
gone_gone (Placed n k a p) = refl
gone_gone (Opened p o) = refl
gone_gone (Exchanged (call.Received k b)) = refl
gone_gone (Exchanged call.Quiet) = refl
gone_gone (Exchanged call.Failed) = refl
gone_gone (Exchanged (call.Sent n k b o)) = refl
gone_gone (Wrote b w) = refl

-- each call of the doings as if it went out
abbrev sent_in : List Exchange → List LinkCall
sent_in xs = map as_sent (map call_of xs)

sent_first : (x : Doing) (xs : List Doing) → sent_in (exchanges_in (x ∷ xs)) ≡ gone_call (deed_of x) ++ sent_in (exchanges_in xs)
sent_first (Reads m) xs = refl
sent_first (Exchanges x) xs = refl
sent_first (Writes rs) xs = refl

fails_none : (d : Deed) (x : Doing) → FailsAt d (deed_of x) → (gone_call d ≡ []) × (gone_call (deed_of x) ≡ [])
fails_none (Wrote b false) (Writes rs) h = (refl, refl)
fails_none (Wrote b true) (Writes rs) h = absurd h
fails_none (Wrote b true) (Reads m) h = absurd h
fails_none (Wrote b false) (Reads m) h = absurd h
fails_none (Wrote b true) (Exchanges x) h = absurd h
fails_none (Wrote b false) (Exchanges x) h = absurd h
fails_none (Read m) x h = absurd h
fails_none (Placed n k a p) x h = absurd h
fails_none (Opened p o) x h = absurd h
fails_none (Exchanged c) x h = absurd h

told_sent : (ds : List Deed) (xs : List Doing) → AreFront ds (map deed_of xs) → length ds ≡ length xs → map as_sent (calls_in ds) ≡ sent_in (exchanges_in xs)
told_sent [] [] f e = refl
told_sent [] (x ∷ xs) f e = absurd (omega arith)
told_sent (d ∷ ds) [] f e = absurd f
told_sent (d ∷ ds) (x ∷ xs) (inl h) e =
    let below : length ds ≡ length xs = omega arith in
    gone_calls d ds ∙ (ap₂ (λ r s. r ++ s) (sym (gone_gone d) ∙ ap gone_call h.0) (told_sent ds xs h.1 below) ∙ sym (sent_first x xs))
told_sent (d ∷ []) (x ∷ []) (inr h) e =
    let n = fails_none d x h.0 in gone_calls d [] ∙ (ap (λ r. r ++ []) (n.0 ∙ sym n.1) ∙ sym (sent_first x []))
told_sent (d ∷ []) (x ∷ y ∷ xs) (inr h) e = absurd (omega arith)
told_sent (d ∷ c ∷ ds) (x ∷ xs) (inr h) e = let no : c ∷ ds ≡ [] = h.1 in absurd cc

pub fronts_exchange : FrontsExchange
fronts_exchange c me incarnation life old new h =
    let shares = life_shares c me incarnation life in
    record {
      front = exchanges_in h.front;
      back = exchanges_in h.back;
      whole = sym (exchanges_append h.front h.back) ∙ (ap exchanges_in h.whole ∙ sym shares.calls);
      told = told_sent h.went.deeds h.front h.went.front h.all;
      spelled = spelled_in h.front h.spelled;
    }

-- ---- places

placed_if : (b : Bool) (node network address port : ℕ) (places : Places) → placed_by (if b then Placed node network address port ∷ [] else []) places ≡ (if b then with_place node network address port places else places)
placed_if true node network address port places = refl
placed_if false node network address port places = refl

on_network : (c : Config) (network n : ℕ) (places : Places) → placed_by (placings_on c network n) places ≡ places_on c network n places
unfolding placings_on places_on
on_network c network zero places = refl
on_network c network (suc n) places =
    placed_append (placings_on c network n) (placing c network (n + 1)) places
    ∙ (placed_if (has_adapter c (n + 1) network) (n + 1) network (address_at c (n + 1) network) (c.port + (n + 1)) (placed_by (placings_on c network n) places)
    ∙ ap (place_told c network (n + 1)) (on_network c network n places))

upto_network : (c : Config) (n : ℕ) (places : Places) → placed_by (placings_upto c n) places ≡ places_upto c n places
unfolding placings_upto places_upto
upto_network c zero places = refl
upto_network c (suc n) places =
    placed_append (placings_upto c n) (placings_on c (n + 1) 32) places
    ∙ (on_network c (n + 1) 32 (placed_by (placings_upto c n) places) ∙ ap (places_on c (n + 1) 32) (upto_network c n places))

pub placings_are_places : PlacingsArePlaces
unfolding placings all_places
placings_are_places c places = upto_network c 4 places
