-- What a daemon makes at its edges, part after part, and fronts of it.
use Rattle.std.proofs.Common.{◌≡◌, ◌+◌, List, [], ◌∷◌, ◌++◌, length, map, refl, sym, ◌∙◌, ap, ap₂, subst, append_assoc, append-nil}
use Rattle.std.proofs.lemmas.List.{map-append, length-append, length-map}
use Rattle.hags_io.specs.Deeds.{Deed}
use Rattle.hags_io.specs.Telling.{Telling, Did}
use Rattle.hags_io.specs.Fronts.{as_gone, Went, AreFront}
use Rattle.hags_io.proofs.DeedLaws.{did_none, did_on}
use Rattle.hags_io.proofs.FrontLaws.{went_nothing, went_on, all_are_front, front_on}
use Rattle.daemon_model.specs.Doings.{Doing, Reads, Exchanges, Writes, deed_of, AreSpelled, Made, MadeFront}

spelled_both : (xs ys : List Doing) → AreSpelled xs → AreSpelled ys → AreSpelled (xs ++ ys)
spelled_both [] ys p q = q
spelled_both (Reads m ∷ xs) ys p q = spelled_both xs ys p q
spelled_both (Exchanges x ∷ xs) ys p q = (p.0, spelled_both xs ys p.1 q)
spelled_both (Writes rs ∷ xs) ys p q = spelled_both xs ys p q

-- ---- all of it

pub made_nothing : (t : Telling) → Made t t []
made_nothing t = record { went = went_nothing t; spelled = tt }

pub made_on : (t u v : Telling) (xs ys : List Doing) → Made t u xs → Made u v ys → Made t v (xs ++ ys)
made_on t u v xs ys p q = record {
  went = subst (Went t v) (sym (map-append deed_of xs ys)) (went_on t u v (map deed_of xs) (map deed_of ys) p.went q.went);
  spelled = spelled_both xs ys p.spelled q.spelled;
}

-- ---- fronts

went_len : (ds es : List Deed) → map as_gone ds ≡ es → length ds ≡ length es
went_len ds es h = sym (length-map ds as_gone) ∙ ap length h

made_len : (ds : List Deed) (xs : List Doing) → map as_gone ds ≡ map deed_of xs → length ds ≡ length xs
made_len ds xs h = went_len ds (map deed_of xs) h ∙ length-map xs deed_of

pub all_made : (t u : Telling) (more : List Doing) → Made t u more → MadeFront t u more
all_made t u more m = record {
  front = more;
  back = [];
  whole = append-nil more;
  went = record { deeds = m.went.deeds; told = m.went.told; front = all_are_front m.went.deeds (map deed_of more) m.went.are };
  all = made_len m.went.deeds more m.went.are;
  spelled = m.spelled;
}

pub none_made : (t : Telling) (more : List Doing) → MadeFront t t more
none_made t more = record { front = []; back = more; whole = refl; went = record { deeds = []; told = did_none t; front = tt }; all = refl; spelled = tt }

pub still_made : (t u : Telling) (more : List Doing) → Did t u [] → MadeFront t u more
still_made t u more h = record { front = []; back = more; whole = refl; went = record { deeds = []; told = h; front = tt }; all = refl; spelled = tt }

pub made_front_on : (t u v : Telling) (xs ys : List Doing) → Made t u xs → MadeFront u v ys → MadeFront t v (xs ++ ys)
made_front_on t u v xs ys p q = record {
  front = xs ++ q.front;
  back = q.back;
  whole = append_assoc xs q.front q.back ∙ ap (λ t. xs ++ t) q.whole;
  went = record {
    deeds = p.went.deeds ++ q.went.deeds;
    told = did_on t u v p.went.deeds q.went.deeds p.went.told q.went.told;
    front = subst (AreFront (p.went.deeds ++ q.went.deeds)) (sym (map-append deed_of xs q.front)) (front_on p.went.deeds q.went.deeds (map deed_of xs) (map deed_of q.front) p.went.are q.went.front);
  };
  all = length-append p.went.deeds q.went.deeds ∙ (ap₂ (λ m n. m + n) (made_len p.went.deeds xs p.went.are) q.all ∙ sym (length-append xs q.front));
  spelled = spelled_both xs q.front p.spelled q.spelled;
}

pub made_front_more : (t u : Telling) (xs ys : List Doing) → MadeFront t u xs → MadeFront t u (xs ++ ys)
made_front_more t u xs ys p = record { front = p.front; back = p.back ++ ys; whole = sym (append_assoc p.front p.back ys) ∙ ap (λ t. t ++ ys) p.whole; went = p.went; all = p.all; spelled = p.spelled }
