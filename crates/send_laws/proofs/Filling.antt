-- What is put as a view is entered: nothing is sent of it yet, and a ballot is kept for each that hears it.
use Rattle.std.proofs.Common.{◌≡◌, ◌≤◌, ℕ, ◌+◌, ◌*◌, List, [], ◌∷◌, length, fold, flat_map, Some, None, Option, Bool, true, false, refl, sym, ap, ◌∙◌, subst, inl, inr, arith}
use Rattle.std.specs.Prelude.{find}
use Rattle.std.specs.Str.{bytes_eq}
use Rattle.rsct_packet.specs.declared.ids.ProviderId.{ProviderId}
use Rattle.rsct_packet.specs.declared.ids.ProtoId.{ProtoId}
use Rattle.rsct_packet.specs.Search.{Has}
use Rattle.proposal_core.specs.declared.entry.Entry.{Entry}
use Rattle.proposal_core.specs.declared.group_state.GroupState.{GroupState}
use Rattle.proposal_core.specs.Fold.{fits}
use Rattle.proposal_core.specs.GroupView.{GroupView}
use Rattle.proposal_core.specs.Lists.{list_or_new, entry_fits, with_entry}
use Rattle.subscribe_core.specs.Subs.{differs}
use Rattle.client_callbacks.specs.declared.ballot.Filled.{Filled}
use Rattle.client_callbacks.specs.Ballots.{BallotView}
use Rattle.session_state.specs.declared.casts.Cast.{Cast}
use Rattle.session_state.specs.declared.state.SessionState.{SessionState}
use Rattle.session_state.specs.HandOn.{hearers, casts_out}
use Rattle.session_state.specs.HandOn as session
use Rattle.view_state.specs.declared.install.Part.{Part}
use Rattle.view_state.specs.Cut.{all_fit, lacking_of}
use Rattle.view_exchange.specs.Longest.{NamesDiffer}
use Rattle.view_state.specs.declared.views.Views.{Views}
use Rattle.node_state.specs.declared.group.GroupRow.{GroupRow}
use Rattle.node_state.specs.declared.state.Core.{Core}
use Rattle.node_state.specs.State.{row_found, row_of, with_row, list_of, state_of, len_of, fits_at_end, frozen, recorded, recorded_all, with_sessions}
use Rattle.node_state.specs.Sending.{send_if_known}
use Rattle.node_state.specs.HandOn.{Answering, fills, heard, notes, noted, ballot_sent, cast_sent_of, casts_sent, hand_on}
use Rattle.node_state.specs.Leading.{put, put_and_hand}
use Rattle.node_state.specs.Applying.{Lacking, lacking_in, fill_lists}
use Rattle.node_state.proofs.NameOrder.{row_here, row_there}
use Rattle.step_refinement.proofs.Fits.{both}
use Rattle.step_refinement.proofs.Fills.{lacking_tried}
use Rattle.send_laws.specs.Bound.{puts_of, waits_of, Room, Stands}
use Rattle.send_laws.specs.Lasting.{Lasting}
use Rattle.send_laws.proofs.Parts.{Goes, free_then, goes_recorded_all, goes_sessions}
use Rattle.send_laws.proofs.Hands.{hearers_few, casts_long, no_put_heard, goes_noted}
use Rattle.send_laws.proofs.Leads.{Puts, puts_put, fit_state}
use Rattle.send_laws.proofs.Sessions.{Less, less_handed}

-- ---- with what a node owes

abbrev pub pot : Core → ℕ
pot s = length s.sends + waits_of s.groups + length s.sessions.requests + length s.sessions.kept

-- what is sent, waits and is owed is at most so much more, and a hundred for each put
pub record Holds (c : ℕ) (s t : Core) : Type 0 where
  pub within : pot t + 100 * puts_of s.records ≤ pot s + 100 * puts_of t.records + c
  pub stands : Stands t
  pub lasts : Lasting s → Lasting t

pub holds_same : (s : Core) → Stands s → Holds 0 s s
holds_same s k = record { within = omega arith; stands = k; lasts = λ h. h }

pub holds_then : (a b : ℕ) (s t u : Core) → Holds a s t → Holds b t u → Holds (a + b) s u
holds_then a b s t u x y = record { within = omega (arith, x.within, y.within); stands = y.stands; lasts = λ h. y.lasts (x.lasts h) }

pub holds_free : (s t u : Core) → Holds 0 s t → Holds 0 t u → Holds 0 s u
holds_free s t u x y = record { within = omega (arith, x.within, y.within); stands = y.stands; lasts = λ h. y.lasts (x.lasts h) }

pub holds_fold : {A : Type 0} (f : Core → A → Core) → ((s : Core) (x : A) → Stands s → Holds 0 s (f s x)) → (xs : List A) (s : Core) → Stands s → Holds 0 s (fold f s xs)
holds_fold f one [] s k = holds_same s k
holds_fold f one (x ∷ xs) s k =
    let a : Holds 0 s (f s x) = one s x k in holds_free s (f s x) (fold f (f s x) xs) a (holds_fold f one xs (f s x) a.stands)

-- the same is owed
pub holds_by : (c : ℕ) (s t : Core) → t.sessions ≡ s.sessions → Goes c s t → Holds c s t
holds_by c s t e g =
    let r : length t.sessions.requests ≡ length s.sessions.requests = ap (λ (x : SessionState). length x.requests) e in
    let k : length t.sessions.kept ≡ length s.sessions.kept = ap (λ (x : SessionState). length x.kept) e in
    record { within = omega (arith, g.within, r, k); stands = g.stands; lasts = g.lasts }

pub holds_goes : (s t : Core) → t.sessions ≡ s.sessions → Goes 0 s t → Holds 0 s t
holds_goes s t e g = holds_by 0 s t e g

-- ---- ballots that go to nobody

fold_still : {A : Type 0} (f : Core → A → Core) → ((s : Core) (x : A) → f s x ≡ s) → (xs : List A) (s : Core) → fold f s xs ≡ s
fold_still f one [] s = refl
fold_still f one (x ∷ xs) s = fold_still f one xs (f s x) ∙ one s x

cast_still : (s : Core) (g : List ℕ) (p : ProviderId) (o : Option (ProtoId × ℕ × BallotView)) → cast_sent_of s g None p o ≡ s
unfolding cast_sent_of ballot_sent send_if_known
cast_still s g p None = refl
cast_still s g p (Some c) = by (c.2).filled
  where
    by : (b : Option Filled) → ballot_sent s g None p c.0 c.1 b ≡ s
    by None = refl
    by (Some b) = refl

casts_still : (s : Core) (g : List ℕ) (cs : List Cast) → casts_sent s g None cs ≡ s
unfolding casts_sent
casts_still s g cs = by (frozen s)
  where
    by : (b : Bool) → elim b as (λ _. Core) [ true ↦ s | false ↦ fold (λ t (c : Cast). cast_sent_of t g None c.provider c.cast) s cs ] ≡ s
    by true = refl
    by false = fold_still (λ t (c : Cast). cast_sent_of t g None c.provider c.cast) (λ t c. cast_still t g c.provider c.cast) cs s

pub noted_groups : (s : Core) (g : List ℕ) (i : ℕ) (before after : GroupState) → (noted s g i before after).groups ≡ s.groups
unfolding noted notes recorded_all
noted_groups s g i before after = by (differs before after)
  where
    by : (b : Bool) → (elim b as (λ _. Core) [ true ↦ notes s g (Some i) after | false ↦ s ]).groups ≡ s.groups
    by true = refl
    by false = refl

-- what handing on to nobody leaves
pub record Handed (s t : Core) : Type 0 where
  pub goes : Goes 0 s t
  pub groups : t.groups ≡ s.groups
  pub less : Less 64 s.sessions t.sessions

handed_still : (f : Answering) (s : Core) (g : List ℕ) (i : ℕ) (before after : GroupState) (e : Entry) → fits before e ≡ true → Room before → Stands s → Handed s (hand_on f s None g i before after e)
unfolding hand_on casts_out with_sessions recorded_all
handed_still f s g i before after e fit room k = subst (Handed s) (sym (casts_still u g cs)) here
  where
    bs : List (Option Filled)
    bs = fills f (length s.records) s.sessions e after (hearers s.sessions g before e)

    cs : List Cast
    cs = casts_out s.sessions g before after e bs

    a : Core
    a = recorded_all s (flat_map (heard s g i e after) cs)

    t : Core
    t = noted a g i before after

    u : Core
    u = with_sessions t (session.handed_on s.sessions g before after e bs)

    ga : Goes 0 s a
    ga = goes_recorded_all s (flat_map (heard s g i e after) cs) (no_put_heard s g i e after cs) k

    gt : Goes 0 a t
    gt = goes_noted a g i before after ga.stands

    gu : Goes 0 t u
    gu = goes_sessions t (session.handed_on s.sessions g before after e bs) gt.stands

    few : length cs ≤ 64
    few = omega (arith, casts_long e after s.sessions.level (hearers s.sessions g before e) bs, hearers_few s.sessions g before e fit room)

    less : Less (length cs) s.sessions (session.handed_on s.sessions g before after e bs)
    less = less_handed s.sessions g before after e bs

    here : Handed s u
    here = record { goes = free_then 0 s a u ga (free_then 0 a t u gt gu); groups = noted_groups a g i before after; less = record { kept = omega (arith, few, less.kept); requests = less.requests; providers = less.providers } }

-- ---- one entry

pub record FilledOne (g : List ℕ) (s t : Core) (l : GroupView) : Type 0 where
  pub holds : Holds 0 s t
  pub views : t.views ≡ s.views
  pub here : list_of t g ≡ l
  pub there : (h : List ℕ) → (g ≡ h → ⊥) → list_of t h ≡ list_of s h

pub put_sessions : (s : Core) (g : List ℕ) (e : Entry) → (put s g e).sessions ≡ s.sessions
unfolding put recorded with_row
put_sessions s g e = refl

row_by : (s t : Core) (h : List ℕ) → t.groups ≡ s.groups → list_of t h ≡ list_of s h
unfolding list_of row_of
row_by s t h e = ap (λ (rows : List GroupRow). list_or_new (row_found h (find (λ row. bytes_eq row.name h) rows)).list) e

put_here : (s : Core) (g : List ℕ) (e : Entry) → Stands s → list_of (put s g e) g ≡ with_entry (list_of s g) s.views.view e
unfolding put recorded list_of row_of with_row
put_here s g e k =
    let f : GroupRow → GroupRow = λ row. record row { list = Some (with_entry (list_or_new row.list) s.views.view e) } in
    ap (λ (r : GroupRow). list_or_new r.list) (row_here g f (λ x. refl) s k.order)

put_there : (s : Core) (g : List ℕ) (e : Entry) (h : List ℕ) → (g ≡ h → ⊥) → list_of (put s g e) h ≡ list_of s h
unfolding put recorded list_of row_of with_row
put_there s g e h ne =
    let f : GroupRow → GroupRow = λ row. record row { list = Some (with_entry (list_or_new row.list) s.views.view e) } in
    ap (λ (r : GroupRow). list_or_new r.list) (row_there g f (λ x. refl) s h ne)

fill_one : (f : Answering) (s : Core) (g : List ℕ) (e : Entry) → fits_at_end s g e ≡ true → Stands s → FilledOne g s (put_and_hand f s None g e) (with_entry (list_of s g) s.views.view e)
unfolding put_and_hand
fill_one f s g e h k =
    let t : Core = put s g e in
    let p : Puts s t = puts_put s g e k in
    let u : Core = hand_on f t None g (len_of s g) (state_of s g) (state_of t g) e in
    let d : Handed t u = handed_still f t g (len_of s g) (state_of s g) (state_of t g) e (fit_state s g e h) (k.room g) p.stands in
    let r : length t.sessions.requests ≡ length s.sessions.requests = ap (λ (x : SessionState). length x.requests) (put_sessions s g e) in
    let q : length t.sessions.kept ≡ length s.sessions.kept = ap (λ (x : SessionState). length x.kept) (put_sessions s g e) in
    record {
      holds = record { within = omega (arith, p.within, d.goes.within, d.less.kept, d.less.requests, r, q); stands = d.goes.stands; lasts = λ h. d.goes.lasts (p.lasts h) };
      views = d.goes.views ∙ p.views;
      here = row_by t u g d.groups ∙ put_here s g e k;
      there = λ h ne. row_by t u h d.groups ∙ put_there s g e h ne;
    }

-- ---- the entries of a list

pub record FilledList (g : List ℕ) (s t : Core) : Type 0 where
  pub holds : Holds 0 s t
  pub views : t.views ≡ s.views
  pub there : (h : List ℕ) → (g ≡ h → ⊥) → list_of t h ≡ list_of s h

fill_list : (f : Answering) (g : List ℕ) (es : List Entry) (s : Core) → all_fit s.views.view (list_of s g) es ≡ true → Stands s → FilledList g s (fold (λ u e. put_and_hand f u None g e) s es)
unfolding all_fit fits_at_end
fill_list f g [] s h k = record { holds = holds_same s k; views = refl; there = λ y ne. refl }
fill_list f g (e ∷ es) s h k =
    let b = both (entry_fits (list_of s g) e) (all_fit s.views.view (with_entry (list_of s g) s.views.view e) es) h in
    let t : Core = put_and_hand f s None g e in
    let o : FilledOne g s t (with_entry (list_of s g) s.views.view e) = fill_one f s g e b.0 k in
    let z : all_fit s.views.view (list_of t g) es ≡ true = subst (λ l. all_fit s.views.view l es ≡ true) (sym o.here) b.1 in
    let y : all_fit t.views.view (list_of t g) es ≡ true = subst (λ (v : Views). all_fit v.view (list_of t g) es ≡ true) (sym o.views) z in
    let r : FilledList g t (fold (λ u e. put_and_hand f u None g e) t es) = fill_list f g es t y o.holds.stands in
    record {
      holds = holds_free s t (fold (λ u e. put_and_hand f u None g e) t es) o.holds r.holds;
      views = r.views ∙ o.views;
      there = λ x ne. r.there x ne ∙ o.there x ne;
    }

-- ---- all lists

-- each fits in turn
abbrev FitIn : Core → List Lacking → Type 0
FitIn s [] = Unit {0}
FitIn s (x ∷ xs) = (all_fit s.views.view (list_of s x.name) x.entries ≡ true) × FitIn s xs

abbrev Apart : List Lacking → Type 0
Apart [] = Unit {0}
Apart (x ∷ xs) = ((y : Lacking) → Has y xs → x.name ≡ y.name → ⊥) × Apart xs

fit_still : (s t : Core) (g : List ℕ) → t.views ≡ s.views → ((h : List ℕ) → (g ≡ h → ⊥) → list_of t h ≡ list_of s h) → (xs : List Lacking) → ((y : Lacking) → Has y xs → g ≡ y.name → ⊥) → FitIn s xs → FitIn t xs
fit_still s t g v same [] ne h = tt
fit_still s t g v same (x ∷ xs) ne h =
    let z : all_fit s.views.view (list_of t x.name) x.entries ≡ true = subst (λ l. all_fit s.views.view l x.entries ≡ true) (sym (same x.name (ne x (inl refl)))) h.0 in
    (subst (λ (w : Views). all_fit w.view (list_of t x.name) x.entries ≡ true) (sym v) z, fit_still s t g v same xs (λ y k. ne y (inr k)) h.1)

pub record FilledAll (s t : Core) : Type 0 where
  pub holds : Holds 0 s t
  pub views : t.views ≡ s.views

fill_all : (f : Answering) (xs : List Lacking) (s : Core) → FitIn s xs → Apart xs → Stands s → FilledAll s (fill_lists f s xs)
unfolding fill_lists
fill_all f [] s h a k = record { holds = holds_same s k; views = refl }
fill_all f (x ∷ xs) s h a k =
    let t : Core = fold (λ u e. put_and_hand f u None x.name e) s x.entries in
    let o : FilledList x.name s t = fill_list f x.name x.entries s h.0 k in
    let r : FilledAll t (fill_lists f t xs) = fill_all f xs t (fit_still s t x.name o.views o.there xs a.0 h.1) a.1 o.holds.stands in
    record { holds = holds_free s t (fill_lists f t xs) o.holds r.holds; views = r.views ∙ o.views }

-- what lacks is of the parts, in turn
record Lacks (s : Core) (ps : List Part) (xs : List Lacking) : Type 0 where
  pub fit : FitIn s xs
  pub apart : Apart xs
  pub named : (y : Lacking) → Has y xs → (q : Part) × Has q ps × (y.name ≡ q.name)

lacks : (s : Core) (ps : List Part) (xs : List Lacking) → NamesDiffer ps → lacking_in s ps ≡ Some xs → Lacks s ps xs
unfolding lacking_in
lacks s [] xs d q =
    let z : [] ≡ xs = cc in subst (Lacks s []) z (record { fit = tt; apart = tt; named = λ y h. absurd h })
lacks s (p ∷ ps) xs d q = by (lacking_of s.views.view (list_of s p.name) p) (lacking_in s ps) refl refl (λ ys e. lacks s ps ys d.1 e) q
  where
    one : (es : List Entry) (ys : List Lacking) → lacking_of s.views.view (list_of s p.name) p ≡ Some es → Lacks s ps ys → Lacks s (p ∷ ps) (record { name = p.name; entries = es } ∷ ys)
    one es ys e r =
        record {
          fit = (lacking_tried s.views.view (list_of s p.name) p es e, r.fit);
          apart = ((λ y h same. let k = r.named y h in d.0 k.0 k.1 (sym k.2 ∙ sym same)), r.apart);
          named = λ y h. named_in y h;
        }
      where
        named_in : (y : Lacking) → Has y (record { name = p.name; entries = es } ∷ ys) → (q : Part) × Has q (p ∷ ps) × (y.name ≡ q.name)
        named_in y (inl z) = (p, inl refl, ap (λ (w : Lacking). w.name) z)
        named_in y (inr k) = let j = r.named y k in (j.0, inr j.1, j.2)

    by : (a : Option (List Entry)) (b : Option (List Lacking)) → lacking_of s.views.view (list_of s p.name) p ≡ a → lacking_in s ps ≡ b → ((ys : List Lacking) → lacking_in s ps ≡ Some ys → Lacks s ps ys) → elim a as (λ _. Option (List Lacking)) [ None ↦ None | Some es ↦ elim b as (λ _. Option (List Lacking)) [ None ↦ None | Some ys ↦ Some (record { name = p.name; entries = es } ∷ ys) ] ] ≡ Some xs → Lacks s (p ∷ ps) xs
    by None b ea eb on q = absurd cc
    by (Some es) None ea eb on q = absurd cc
    by (Some es) (Some ys) ea eb on q =
        let new : Lacking = record { name = p.name; entries = es } in
        let z : new ∷ ys ≡ xs = cc in subst (Lacks s (p ∷ ps)) z (one es ys ea (on ys eb))

-- what lacks of parts whose groups differ
pub filled : (f : Answering) (s : Core) (ps : List Part) (xs : List Lacking) → NamesDiffer ps → lacking_in s ps ≡ Some xs → Stands s → FilledAll s (fill_lists f s xs)
filled f s ps xs d e k = let l = lacks s ps xs d e in fill_all f xs s l.fit l.apart k
