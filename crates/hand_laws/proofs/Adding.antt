-- What records, handings and logs add to what was heard.
use Rattle.std.proofs.Common.{◌≡◌, ◌⊎◌, inl, inr, Bool, true, false, List, [], ◌∷◌, ◌++◌, refl, ap, subst, ◌∙◌}
use Rattle.std.specs.Prelude.{if◌then◌else◌}
use Rattle.std.specs.List.{fold}
use Rattle.rsct_packet.specs.declared.ids.ProviderId.{ProviderId}
use Rattle.rsct_packet.specs.Lists.{reverse_onto}
use Rattle.rsct_packet.specs.Providers.{same_provider}
use Rattle.rsct_packet.specs.Search.{Has}
use Rattle.rsct_packet.proofs.HasLaws.{filter_has}
use Rattle.node_state.specs.declared.happened.Happened.{Happened}
use Rattle.node_state.specs.declared.happened.Happened.TheVariants as happened
use Rattle.node_state.specs.Handed.{is_handed, handed_in}
use Rattle.entry_delivery.specs.Received.{Handing, told_by}
use Rattle.hearing_laws.specs.Walk.{Hearing, heard_after, heard_by}
use Rattle.hand_laws.specs.Hearers.{heard_then, IsUncast}

unfoldable pub heard_with : ProviderId → List Hearing → List Happened → List Hearing
heard_with p hs rs = fold (λ (old : List Hearing) (r : Happened). heard_after p r old) hs rs

pub heard_onto : (p : ProviderId) (rs tr : List Happened) → heard_by p (reverse_onto rs tr) ≡ heard_with p (heard_by p tr) rs
unfolding heard_with
heard_onto p [] tr = refl
heard_onto p (r ∷ rs) tr = heard_onto p rs (r ∷ tr)

pub heard_nothing : (p : ProviderId) (hs : List Hearing) → heard_with p hs [] ≡ hs
unfolding heard_with
heard_nothing p hs = refl

-- what is not handed is not heard
unhanded : (p : ProviderId) (r : Happened) (hs : List Hearing) → is_handed r ≡ false → heard_after p r hs ≡ hs
unhanded p (happened.Heard q v g i e members value) hs k = absurd (cc)
unhanded p _ hs k = refl

pub heard_handed : (p : ProviderId) (rs : List Happened) (hs : List Hearing) → heard_with p hs rs ≡ heard_with p hs (handed_in rs)
unfolding heard_with
heard_handed p [] hs = refl
heard_handed p (r ∷ rs) hs = by (λ ks. heard_handed p rs ks) (is_handed r) refl
  where
    by : ((ks : List Hearing) → heard_with p ks rs ≡ heard_with p ks (handed_in rs)) → (b : Bool) → is_handed r ≡ b → heard_with p (heard_after p r hs) rs ≡ heard_with p hs (if b then r ∷ handed_in rs else handed_in rs)
    by rest true k = rest (heard_after p r hs)
    by rest false k = rest (heard_after p r hs) ∙ ap (λ ks. heard_with p ks (handed_in rs)) (unhanded p r hs k)

pub heard_told : (p : ProviderId) (hs : List Handing) (old : List Hearing) → heard_with p old (told_by hs) ≡ heard_then p old hs
unfolding heard_with
heard_told p [] old = refl
heard_told p (h ∷ hs) old = heard_told p hs (heard_after p h.what old)

-- no provider hears
abbrev pub IsSilent : Happened → Type 0
IsSilent (happened.Heard p v g i e members value) = ⊥
IsSilent _ = Unit {0}

silent_after : (p : ProviderId) (r : Happened) (hs : List Hearing) → IsSilent r → heard_after p r hs ≡ hs
silent_after p (happened.Heard q v g i e members value) hs k = absurd k
silent_after p _ hs k = refl

pub heard_silent : (p : ProviderId) (rs more : List Happened) (hs : List Hearing) → ((r : Happened) → Has r rs → IsSilent r) → heard_with p hs (rs ++ more) ≡ heard_with p hs more
unfolding heard_with
heard_silent p [] more hs all = refl
heard_silent p (r ∷ rs) more hs all = ap (λ ks. heard_with p ks (rs ++ more)) (silent_after p r hs (all r (inl refl))) ∙ heard_silent p rs more hs (λ x i. all x (inr i))

pub none_before : (p : ProviderId) (r : Happened) (hs : List Hearing) → heard_after p r hs ≡ [] → hs ≡ []
none_before p (happened.Heard q v g i e members value) hs k = by (same_provider q p) k
  where
    by : (b : Bool) → (if b then record { view = v; group = g; place = i; entry = e } ∷ hs else hs) ≡ [] → hs ≡ []
    by true z = absurd (cc)
    by false z = z
none_before p _ hs k = k

pub none_with : (p : ProviderId) (rs : List Happened) (hs : List Hearing) → heard_with p hs rs ≡ [] → hs ≡ []
unfolding heard_with
none_with p [] hs k = k
none_with p (r ∷ rs) hs k = none_before p r hs (none_with p rs (heard_after p r hs) k)

pub handed_none : (rs : List Happened) (r : Happened) → handed_in rs ≡ [] → Has r rs → is_handed r ≡ false
handed_none rs r none h = by (is_handed r) refl
  where
    by : (b : Bool) → is_handed r ≡ b → b ≡ false
    by false k = refl
    by true k = absurd (subst (Has r) none (filter_has is_handed r rs h k))

pub handed_uncast : (r : Happened) → is_handed r ≡ false → IsUncast r
handed_uncast (happened.Cast p proto phase vote value message) k = absurd (cc)
handed_uncast _ k = tt

pub onto_has : (r : Happened) (rs tr : List Happened) → Has r (reverse_onto rs tr) → Has r rs ⊎ Has r tr
onto_has r [] tr h = inr h
onto_has r (x ∷ rs) tr h = by (onto_has r rs (x ∷ tr) h)
  where
    by : Has r rs ⊎ Has r (x ∷ tr) → Has r (x ∷ rs) ⊎ Has r tr
    by (inl i) = inl (inr i)
    by (inr (inl q)) = inl (inl q)
    by (inr (inr i)) = inr i

pub onto_append : (xs ys zs : List Happened) → reverse_onto (xs ++ ys) zs ≡ reverse_onto ys (reverse_onto xs zs)
onto_append [] ys zs = refl
onto_append (x ∷ xs) ys zs = onto_append xs ys (x ∷ zs)

-- ---- the record of a handing

-- it stands among the records where it stands among those that are handed
pub record Split (rs before : List Happened) (r : Happened) : Type 0 where
  pub older : List Happened
  pub newer : List Happened
  pub is : rs ≡ older ++ r ∷ newer
  pub handed : handed_in older ≡ before

pub split_handed : (rs before : List Happened) (r : Happened) (after : List Happened) → handed_in rs ≡ before ++ r ∷ after → Split rs before r
split_handed [] [] r after e = absurd (cc)
split_handed [] (b ∷ before) r after e = absurd (cc)
split_handed (x ∷ rs) before r after e = by (λ bs k. split_handed rs bs r after k) (is_handed x) refl before e refl
  where
    more : (b : Bool) (bs : List Happened) → is_handed x ≡ b → Split rs bs r → (if b then x ∷ bs else bs) ≡ before → Split (x ∷ rs) before r
    more b bs q k same =
        record { older = x ∷ k.older; newer = k.newer; is = ap (λ ys. x ∷ ys) k.is; handed = ap (λ t. if t then x ∷ handed_in k.older else handed_in k.older) q ∙ ap (λ ys. if b then x ∷ ys else ys) k.handed ∙ same }

    by : ((bs : List Happened) → handed_in rs ≡ bs ++ r ∷ after → Split rs bs r) → (b : Bool) → is_handed x ≡ b → (bs : List Happened) → (if b then x ∷ handed_in rs else handed_in rs) ≡ bs ++ r ∷ after → bs ≡ before → Split (x ∷ rs) before r
    by rest true q [] k same = let head : x ≡ r = cc in record { older = []; newer = rs; is = ap (λ z. z ∷ rs) head; handed = same }
    by rest true q (y ∷ bs) k same = let head : x ≡ y = cc in let tail : handed_in rs ≡ bs ++ r ∷ after = cc in more true bs q (rest bs tail) (ap (λ z. z ∷ bs) head ∙ same)
    by rest false q bs k same = more false bs q (rest bs k) same
