-- Lines of records, written all at once.
use Rattle.std.proofs.Common.{◌≡◌, ℕ, zero, suc, ◌+◌, ◌==◌, true, false, ◌<◌, ◌≤◌, List, [], ◌∷◌, ◌++◌, length, take, get_or, refl, sym, ◌∙◌, ap, append-nil, add-one, arith, inr}
use Rattle.std.proofs.Math.Seq.{take-suc}
use Rattle.std.proofs.lemmas.Bool.{eqb-true}
use Rattle.std.proofs.lemmas.Grind.{flat_map-append}
use Rattle.hags_io.specs.Deeds.{Wrote}
use Rattle.hags_io.specs.Telling.{Telling, Did}
use Rattle.hags_io.proofs.FrontLaws.{went_as}
use Rattle.node_state.specs.declared.happened.Happened.{Happened}
use Rattle.world_model.specs.Text.{line_of}
use Rattle.daemon_model.specs.Daemon.{records_text}
use Rattle.daemon_model.specs.Doings.{Writes, writes, Made, MadeFront}
use Rattle.daemon_model.proofs.MadeLaws.{made_nothing, still_made}

-- a front as long as the list is the list
pub all_taken : {X : Type 0} (i : ℕ) (xs : List X) → length xs ≤ i → take i xs ≡ xs
all_taken zero [] le = refl
all_taken zero (x ∷ xs) le = absurd (omega arith)
all_taken (suc i) [] le = refl
all_taken (suc i) (x ∷ xs) le = let below : length xs ≤ i = omega arith in ap (λ t. x ∷ t) (all_taken i xs below)

text_append : (xs ys : List Happened) → records_text (xs ++ ys) ≡ records_text xs ++ records_text ys
unfolding records_text
text_append xs ys = flat_map-append line_of xs ys

pub no_text : records_text [] ≡ []
unfolding records_text
no_text = refl

one_text : (r : Happened) → records_text (r ∷ []) ≡ line_of r
unfolding records_text
one_text r = append-nil (line_of r)

pub text_next : (i : ℕ) (r : Happened) (rs : List Happened) (line : List ℕ) → i < length rs → r ≡ get_or rs i r → line ≡ line_of r → records_text (take i rs) ++ line ≡ records_text (take (i + 1) rs)
text_next i r rs line h is e =
    let at : take (i + 1) rs ≡ take i rs ++ r ∷ [] = rw add-one (take-suc rs i r h ∙ ap (λ x. take i rs ++ x ∷ []) (sym is)) in
    ap (λ t. records_text (take i rs) ++ t) (e ∙ sym (one_text r)) ∙ (sym (text_append (take i rs) (r ∷ [])) ∙ ap records_text (sym at))

pub text_all : (i : ℕ) (rs : List Happened) (text : List ℕ) → length rs ≤ i → text ≡ records_text (take i rs) → text ≡ records_text rs
text_all i rs text le e = e ∙ ap records_text (all_taken i rs le)

-- ---- what is written

pub none_written : (t : Telling) (rs : List Happened) → (length rs == 0) ≡ true → Made t t (writes rs)
none_written t [] e = made_nothing t
none_written t (r ∷ rs) e = let z : length (r ∷ rs) ≡ 0 = eqb-true (length (r ∷ rs)) 0 e in absurd (omega arith)

some_written : (t u : Telling) (rs : List Happened) → Did t u (Wrote (records_text rs) true ∷ []) → Made t u (Writes rs ∷ [])
some_written t u rs h = record { went = went_as t u (Wrote (records_text rs) true) (Wrote (records_text rs) true) refl h; spelled = tt }

pub all_written : (t u : Telling) (rs : List Happened) (text : List ℕ) → (length rs == 0) ≡ false → text ≡ records_text rs → Did t u (Wrote text true ∷ []) → Made t u (writes rs)
all_written t u [] text e is h = absurd cc
all_written t u (r ∷ rs) text e is h = some_written t u (r ∷ rs) (rw is at h)

pub front_written : (t u : Telling) (rs : List Happened) (text : List ℕ) → (length rs == 0) ≡ false → text ≡ records_text rs → Did t u (Wrote text false ∷ []) → MadeFront t u (writes rs)
front_written t u [] text e is h = absurd cc
front_written t u (r ∷ rs) text e is h =
    record { front = Writes (r ∷ rs) ∷ []; back = []; whole = refl; went = record { deeds = Wrote (records_text (r ∷ rs)) false ∷ []; told = rw is at h; front = inr (refl, refl) }; all = refl; spelled = tt }

pub still_written : (t u : Telling) (rs : List Happened) → Did t u [] → MadeFront t u (writes rs)
still_written t u rs h = still_made t u (writes rs) h
