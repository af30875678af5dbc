-- Deeds one after the other, and what each part tells of one.
use Rattle.std.proofs.Common.{◌≡◌, ℕ, ◌+◌, ◌≤◌, Bool, true, false, List, [], ◌∷◌, ◌++◌, Option, Some, None, append_assoc, append-nil, refl, sym, ◌∙◌, ap, subst, arith}
use Rattle.std.specs.Io.KnownBytes.{Appends, Keeps}
use Rattle.std.proofs.KnownBytes.{Appends-trans, Appends-nil, Appends-kept}
use Rattle.hags_io.specs.declared.link.LinkCall.{LinkCall}
use Rattle.hags_io.specs.declared.link.LinkCall.TheVariants as call
use Rattle.hags_io.specs.declared.link.Places.{Places}
use Rattle.hags_io.specs.Deeds.{Deed, Read, Placed, Opened, Exchanged, Wrote}
use Rattle.hags_io.specs.Edges.{GrowsByFront, Rose}
use Rattle.hags_io.specs.Links.{Same, Grows, Tells, Counts, was_opened}
use Rattle.hags_io.specs.Places.{with_place}
use Rattle.hags_io.specs.Telling.{Telling, calls_in, moments_in, last_in, placed_by, opened_by, link_failure, link_failures, write_failure, write_failures, WroteIf, Holds, Rises, Did, telling_of}

-- ---- what is told stays, or grows

pub same_itself : {A : Type 0} (a : Option A) → Same a a
same_itself None = tt
same_itself (Some x) = refl

pub grows_same : {A : Type 0} (a b : Option (List A)) → Same a b → Grows a b []
grows_same None b h = tt
grows_same (Some xs) b h = h ∙ ap Some (sym (append-nil xs))

pub grows_on : {A : Type 0} (a b c : Option (List A)) (xs ys : List A) → Grows a b xs → Grows b c ys → Grows a c (xs ++ ys)
grows_on None b c xs ys p q = tt
grows_on (Some zs) b c xs ys p q =
    let at : Grows (Some (zs ++ xs)) c ys = subst (λ o. Grows o c ys) p q in
    at ∙ ap Some (append_assoc zs xs ys)

tells_same : {A : Type 0} (a b : Option A) → Same a b → Tells a b (λ x. x)
tells_same None b h = tt
tells_same (Some x) b h = h

tells_on : {A : Type 0} (a b c : Option A) (f g h : A → A) → ((x : A) → h x ≡ g (f x)) → Tells a b f → Tells b c g → Tells a c h
tells_on None b c f g h is p q = tt
tells_on (Some x) b c f g h is p q =
    let at : Tells (Some (f x)) c g = subst (λ o. Tells o c g) p q in at ∙ ap Some (sym (is x))

counts_none : (u : Option (List ℕ)) → Counts u u []
counts_none None = tt
counts_none (Some xs) = sym (append-nil xs)

counts_on : (u v w : Option (List ℕ)) (xs ys : List ℕ) → Counts u v xs → Counts v w ys → Counts u w (xs ++ ys)
counts_on None None None xs ys p q = tt
counts_on None None (Some zs) xs ys p q = q
counts_on None (Some zs) w xs ys p q = absurd p
counts_on (Some us) None None xs ys p q = tt
counts_on (Some us) None (Some ws) xs ys p q = absurd q
counts_on (Some us) (Some vs) None xs ys p q = tt
counts_on (Some us) (Some vs) (Some ws) xs ys p q = q ∙ (ap (λ t. t ++ ys) p ∙ append_assoc us xs ys)

rises_on : (a b c n m : ℕ) → Rises a b n → Rises b c m → Rises a c (n + m)
rises_on a b c n m p q = omega arith

-- ---- shares of deeds one after the other

calls_append : (xs ys : List Deed) → calls_in (xs ++ ys) ≡ calls_in xs ++ calls_in ys
calls_append [] ys = refl
calls_append (Read m ∷ xs) ys = calls_append xs ys
calls_append (Placed n k a p ∷ xs) ys = calls_append xs ys
calls_append (Opened p d ∷ xs) ys = calls_append xs ys
calls_append (Exchanged c ∷ xs) ys = ap (λ t. c ∷ t) (calls_append xs ys)
calls_append (Wrote b w ∷ xs) ys = calls_append xs ys

moments_append : (xs ys : List Deed) → moments_in (xs ++ ys) ≡ moments_in xs ++ moments_in ys
moments_append [] ys = refl
moments_append (Read m ∷ xs) ys = ap (λ t. m ∷ t) (moments_append xs ys)
moments_append (Placed n k a p ∷ xs) ys = moments_append xs ys
moments_append (Opened p d ∷ xs) ys = moments_append xs ys
moments_append (Exchanged c ∷ xs) ys = moments_append xs ys
moments_append (Wrote b w ∷ xs) ys = moments_append xs ys

last_append : (xs ys : List Deed) (l : ℕ) → last_in (xs ++ ys) l ≡ last_in ys (last_in xs l)
last_append [] ys l = refl
last_append (Read m ∷ xs) ys l = last_append xs ys m
last_append (Placed n k a p ∷ xs) ys l = last_append xs ys l
last_append (Opened p d ∷ xs) ys l = last_append xs ys l
last_append (Exchanged c ∷ xs) ys l = last_append xs ys l
last_append (Wrote b w ∷ xs) ys l = last_append xs ys l

pub placed_append : (xs ys : List Deed) (p : Places) → placed_by (xs ++ ys) p ≡ placed_by ys (placed_by xs p)
placed_append [] ys p = refl
placed_append (Read m ∷ xs) ys p = placed_append xs ys p
placed_append (Placed n k a q ∷ xs) ys p = placed_append xs ys (with_place n k a q p)
placed_append (Opened q d ∷ xs) ys p = placed_append xs ys p
placed_append (Exchanged c ∷ xs) ys p = placed_append xs ys p
placed_append (Wrote b w ∷ xs) ys p = placed_append xs ys p

opened_append : (xs ys : List Deed) (o : Option (ℕ × Bool)) → opened_by (xs ++ ys) o ≡ opened_by ys (opened_by xs o)
opened_append [] ys o = refl
opened_append (Read m ∷ xs) ys o = opened_append xs ys o
opened_append (Placed n k a p ∷ xs) ys o = opened_append xs ys o
opened_append (Opened p d ∷ xs) ys o = opened_append xs ys (Some (p, d))
opened_append (Exchanged c ∷ xs) ys o = opened_append xs ys o
opened_append (Wrote b w ∷ xs) ys o = opened_append xs ys o

link_failures_append : (xs ys : List Deed) → link_failures (xs ++ ys) ≡ link_failures xs + link_failures ys
link_failures_append [] ys = let e : link_failures ys ≡ 0 + link_failures ys = omega arith in e
link_failures_append (x ∷ xs) ys = let h : link_failures (xs ++ ys) ≡ link_failures xs + link_failures ys = link_failures_append xs ys in
    ap (λ n. link_failure x + n) h ∙ (let e : link_failure x + (link_failures xs + link_failures ys) ≡ (link_failure x + link_failures xs) + link_failures ys = omega arith in e)

write_failures_append : (xs ys : List Deed) → write_failures (xs ++ ys) ≡ write_failures xs + write_failures ys
write_failures_append [] ys = let e : write_failures ys ≡ 0 + write_failures ys = omega arith in e
write_failures_append (x ∷ xs) ys = let h : write_failures (xs ++ ys) ≡ write_failures xs + write_failures ys = write_failures_append xs ys in
    ap (λ n. write_failure x + n) h ∙ (let e : write_failure x + (write_failures xs + write_failures ys) ≡ (write_failure x + write_failures xs) + write_failures ys = omega arith in e)

keeps_wrote : (w : Bool) (x y z : Option (List ℕ)) (b : List ℕ) → Keeps x y → WroteIf w y z b → WroteIf w x z b
keeps_wrote true x y z b k p = Appends-trans x y z [] b (Appends-kept x x y [] (Appends-nil x) k) p
keeps_wrote false x y z b k p = record { front = p.front; back = p.back; whole = p.whole; grows = Appends-trans x y z [] p.front (Appends-kept x x y [] (Appends-nil x) k) p.grows }

keeps_on : (x y z : Option (List ℕ)) → Keeps x y → Keeps y z → Keeps x z
keeps_on None y z p q = tt
keeps_on (Some xs) None z p q = absurd p
keeps_on (Some xs) (Some ys) None p q = absurd q
keeps_on (Some xs) (Some ys) (Some zs) p q = q ∙ p

keeps_holds : (x y z : Option (List ℕ)) (ds : List Deed) → Keeps x y → Holds y z ds → Holds x z ds
keeps_holds x y z [] k h = keeps_on x y z k h
keeps_holds x y z (Read m ∷ ds) k h = keeps_holds x y z ds k h
keeps_holds x y z (Placed n w a p ∷ ds) k h = keeps_holds x y z ds k h
keeps_holds x y z (Opened p d ∷ ds) k h = keeps_holds x y z ds k h
keeps_holds x y z (Exchanged c ∷ ds) k h = keeps_holds x y z ds k h
keeps_holds x y z (Wrote b w ∷ ds) k h = (h.0, keeps_wrote w x y h.0 b k h.1, h.2)

holds_on : (x y z : Option (List ℕ)) (xs ys : List Deed) → Holds x y xs → Holds y z ys → Holds x z (xs ++ ys)
holds_on x y z [] ys p q = keeps_holds x y z ys p q
holds_on x y z (Read m ∷ xs) ys p q = holds_on x y z xs ys p q
holds_on x y z (Placed n w a r ∷ xs) ys p q = holds_on x y z xs ys p q
holds_on x y z (Opened r d ∷ xs) ys p q = holds_on x y z xs ys p q
holds_on x y z (Exchanged c ∷ xs) ys p q = holds_on x y z xs ys p q
holds_on x y z (Wrote b w ∷ xs) ys p q = (p.0, p.1, holds_on p.0 y z xs ys p.2 q)

keeps_same : (x : Option (List ℕ)) → Keeps x x
keeps_same None = tt
keeps_same (Some xs) = refl

-- ---- the law, deed after deed

pub did_none : (t : Telling) → Did t t []
did_none t = record {
  deeds = sym (append-nil t.deeds);
  calls = grows_same t.calls t.calls (same_itself t.calls);
  places = tells_same t.places t.places (same_itself t.places);
  opened = tells_same t.opened t.opened (same_itself t.opened);
  link_faults = omega arith;
  held = keeps_same t.held;
  write_faults = omega arith;
  moments = counts_none t.moments;
  last_moment = refl;
}

pub did_on : (t u v : Telling) (xs ys : List Deed) → Did t u xs → Did u v ys → Did t v (xs ++ ys)
did_on t u v xs ys p q = record {
  deeds = q.deeds ∙ (ap (λ ds. ds ++ ys) p.deeds ∙ append_assoc t.deeds xs ys);
  calls = subst (Grows t.calls v.calls) (sym (calls_append xs ys)) (grows_on t.calls u.calls v.calls (calls_in xs) (calls_in ys) p.calls q.calls);
  places = tells_on t.places u.places v.places (placed_by xs) (placed_by ys) (placed_by (xs ++ ys)) (placed_append xs ys) p.places q.places;
  opened = tells_on t.opened u.opened v.opened (opened_by xs) (opened_by ys) (opened_by (xs ++ ys)) (opened_append xs ys) p.opened q.opened;
  link_faults = subst (Rises t.link_faults v.link_faults) (sym (link_failures_append xs ys)) (rises_on t.link_faults u.link_faults v.link_faults (link_failures xs) (link_failures ys) p.link_faults q.link_faults);
  held = holds_on t.held u.held v.held xs ys p.held q.held;
  write_faults = subst (Rises t.write_faults v.write_faults) (sym (write_failures_append xs ys)) (rises_on t.write_faults u.write_faults v.write_faults (write_failures xs) (write_failures ys) p.write_faults q.write_faults);
  moments = subst (Counts t.moments v.moments) (sym (moments_append xs ys)) (counts_on t.moments u.moments v.moments (moments_in xs) (moments_in ys) p.moments q.moments);
  last_moment = q.last_moment ∙ (ap (last_in ys) p.last_moment ∙ sym (last_append xs ys t.last_moment));
}

-- ---- one deed of one part, the others as they were

module _ (ds : List Deed) (held : Option (List ℕ)) (write_faults : ℕ) (moments : Option (List ℕ)) (last : ℕ) where
  abbrev at_link : List Deed → Option (List LinkCall) → Option Places → Option (Option (ℕ × Bool)) → ℕ → Telling
  at_link es calls places opened faults =
      telling_of es calls places opened faults held write_faults moments last

  pub did_place : (es : List Deed) (a b : Option (List LinkCall)) (p q : Option Places) (o r : Option (Option (ℕ × Bool))) (m n : ℕ) (node network address port : ℕ)
      → es ≡ ds ++ Placed node network address port ∷ [] → Tells p q (with_place node network address port) → Same a b → Same o r → n ≡ m
      → Did (at_link ds a p o m) (at_link es b q r n) (Placed node network address port ∷ [])
  did_place es a b p q o r m n node network address port is told same kept later = record {
    deeds = is;
    calls = grows_same a b same;
    places = told;
    opened = tells_same o r kept;
    link_faults = omega arith;
    held = keeps_same held;
    write_faults = omega arith;
    moments = counts_none moments;
    last_moment = refl;
  }

  pub did_open : (es : List Deed) (a b : Option (List LinkCall)) (p q : Option Places) (o r : Option (Option (ℕ × Bool))) (m n : ℕ) (port : ℕ) (done : Bool)
      → es ≡ ds ++ Opened port done ∷ [] → Tells o r (was_opened port done) → Same a b → Same p q → m ≤ n → (done ≡ false → Rose m n)
      → Did (at_link ds a p o m) (at_link es b q r n) (Opened port done ∷ [])
  did_open es a b p q o r m n port true is told same kept later failed = record {
    deeds = is;
    calls = grows_same a b same;
    places = tells_same p q kept;
    opened = told;
    link_faults = omega arith;
    held = keeps_same held;
    write_faults = omega arith;
    moments = counts_none moments;
    last_moment = refl;
  }
  did_open es a b p q o r m n port false is told same kept later failed = let rose : Rose m n = failed refl in record {
    deeds = is;
    calls = grows_same a b same;
    places = tells_same p q kept;
    opened = told;
    link_faults = omega arith;
    held = keeps_same held;
    write_faults = omega arith;
    moments = counts_none moments;
    last_moment = refl;
  }

  did_exchange : (c : LinkCall) (es : List Deed) (a b : Option (List LinkCall)) (p q : Option Places) (o r : Option (Option (ℕ × Bool))) (m n : ℕ)
      → es ≡ ds ++ Exchanged c ∷ [] → Grows a b (c ∷ []) → Same p q → Same o r → Rises m n (link_failure (Exchanged c) + 0)
      → Did (at_link ds a p o m) (at_link es b q r n) (Exchanged c ∷ [])
  did_exchange c es a b p q o r m n is told same kept later = record {
    deeds = is;
    calls = told;
    places = tells_same p q same;
    opened = tells_same o r kept;
    link_faults = later;
    held = keeps_same held;
    write_faults = omega arith;
    moments = counts_none moments;
    last_moment = refl;
  }

  pub did_receive : (es : List Deed) (a b : Option (List LinkCall)) (p q : Option Places) (o r : Option (Option (ℕ × Bool))) (m n : ℕ) (network : ℕ) (bytes : List ℕ)
      → es ≡ ds ++ Exchanged (call.Received network bytes) ∷ [] → Grows a b (call.Received network bytes ∷ []) → Same p q → Same o r → m ≤ n
      → Did (at_link ds a p o m) (at_link es b q r n) (Exchanged (call.Received network bytes) ∷ [])
  did_receive es a b p q o r m n network bytes is told same kept later = did_exchange (call.Received network bytes) es a b p q o r m n is told same kept (omega arith)

  pub did_quiet : (es : List Deed) (a b : Option (List LinkCall)) (p q : Option Places) (o r : Option (Option (ℕ × Bool))) (m n : ℕ)
      → es ≡ ds ++ Exchanged call.Quiet ∷ [] → Grows a b (call.Quiet ∷ []) → Same p q → Same o r → m ≤ n
      → Did (at_link ds a p o m) (at_link es b q r n) (Exchanged call.Quiet ∷ [])
  did_quiet es a b p q o r m n is told same kept later = did_exchange call.Quiet es a b p q o r m n is told same kept (omega arith)

  pub did_fail : (es : List Deed) (a b : Option (List LinkCall)) (p q : Option Places) (o r : Option (Option (ℕ × Bool))) (m n : ℕ)
      → es ≡ ds ++ Exchanged call.Failed ∷ [] → Grows a b (call.Failed ∷ []) → Same p q → Same o r → Rose m n
      → Did (at_link ds a p o m) (at_link es b q r n) (Exchanged call.Failed ∷ [])
  did_fail es a b p q o r m n is told same kept rose = did_exchange call.Failed es a b p q o r m n is told same kept (omega arith)

  pub did_send : (es : List Deed) (a b : Option (List LinkCall)) (p q : Option Places) (o r : Option (Option (ℕ × Bool))) (m n : ℕ) (node network : ℕ) (bytes : List ℕ)
      → es ≡ ds ++ Exchanged (call.Sent node network bytes true) ∷ [] → Grows a b (call.Sent node network bytes true ∷ []) → Same p q → Same o r → m ≤ n
      → Did (at_link ds a p o m) (at_link es b q r n) (Exchanged (call.Sent node network bytes true) ∷ [])
  did_send es a b p q o r m n node network bytes is told same kept later = did_exchange (call.Sent node network bytes true) es a b p q o r m n is told same kept (omega arith)

  pub did_lose : (es : List Deed) (a b : Option (List LinkCall)) (p q : Option Places) (o r : Option (Option (ℕ × Bool))) (m n : ℕ) (node network : ℕ) (bytes : List ℕ)
      → es ≡ ds ++ Exchanged (call.Sent node network bytes false) ∷ [] → Grows a b (call.Sent node network bytes false ∷ []) → Same p q → Same o r → Rose m n
      → Did (at_link ds a p o m) (at_link es b q r n) (Exchanged (call.Sent node network bytes false) ∷ [])
  did_lose es a b p q o r m n node network bytes is told same kept rose = did_exchange (call.Sent node network bytes false) es a b p q o r m n is told same kept (omega arith)

  pub did_none_at_link : (a b : Option (List LinkCall)) (p q : Option Places) (o r : Option (Option (ℕ × Bool))) (m n : ℕ) → Same a b → Same p q → Same o r → m ≤ n → Did (at_link ds a p o m) (at_link ds b q r n) []
  did_none_at_link a b p q o r m n told same kept later = record {
    deeds = sym (append-nil ds);
    calls = grows_same a b told;
    places = tells_same p q same;
    opened = tells_same o r kept;
    link_faults = omega arith;
    held = keeps_same held;
    write_faults = omega arith;
    moments = counts_none moments;
    last_moment = refl;
  }

module _ (ds : List Deed) (calls : Option (List LinkCall)) (places : Option Places) (opened : Option (Option (ℕ × Bool))) (link_faults : ℕ) where
  abbrev at_rest : List Deed → Option (List ℕ) → ℕ → Option (List ℕ) → ℕ → Telling
  at_rest es held faults moments last =
      telling_of es calls places opened link_faults held faults moments last

  pub did_read : (es : List Deed) (x : Option (List ℕ)) (m : ℕ) (u v : Option (List ℕ)) (l k moment : ℕ) → es ≡ ds ++ Read moment ∷ [] → Counts u v (moment ∷ []) → k ≡ moment
      → Did (at_rest ds x m u l) (at_rest es x m v k) (Read moment ∷ [])
  did_read es x m u v l k moment is told kept = record {
    deeds = is;
    calls = grows_same calls calls (same_itself calls);
    places = tells_same places places (same_itself places);
    opened = tells_same opened opened (same_itself opened);
    link_faults = omega arith;
    held = keeps_same x;
    write_faults = omega arith;
    moments = told;
    last_moment = kept;
  }

  pub did_write : (es : List Deed) (x y : Option (List ℕ)) (m n : ℕ) (u : Option (List ℕ)) (l : ℕ) (bytes : List ℕ) → es ≡ ds ++ Wrote bytes true ∷ [] → Appends x y bytes → m ≤ n
      → Did (at_rest ds x m u l) (at_rest es y n u l) (Wrote bytes true ∷ [])
  did_write es x y m n u l bytes is told later = record {
    deeds = is;
    calls = grows_same calls calls (same_itself calls);
    places = tells_same places places (same_itself places);
    opened = tells_same opened opened (same_itself opened);
    link_faults = omega arith;
    held = (y, told, keeps_same y);
    write_faults = omega arith;
    moments = counts_none u;
    last_moment = refl;
  }

  pub did_write_front : (es : List Deed) (x y : Option (List ℕ)) (m n : ℕ) (u : Option (List ℕ)) (l : ℕ) (bytes : List ℕ) → es ≡ ds ++ Wrote bytes false ∷ [] → GrowsByFront x y bytes → Rose m n
      → Did (at_rest ds x m u l) (at_rest es y n u l) (Wrote bytes false ∷ [])
  did_write_front es x y m n u l bytes is told rose = record {
    deeds = is;
    calls = grows_same calls calls (same_itself calls);
    places = tells_same places places (same_itself places);
    opened = tells_same opened opened (same_itself opened);
    link_faults = omega arith;
    held = (y, told, keeps_same y);
    write_faults = omega arith;
    moments = counts_none u;
    last_moment = refl;
  }

  pub did_none_at_sink : (x y : Option (List ℕ)) (m n : ℕ) (u : Option (List ℕ)) (l : ℕ) → Keeps x y → m ≤ n → Did (at_rest ds x m u l) (at_rest ds y n u l) []
  did_none_at_sink x y m n u l told later = record {
    deeds = sym (append-nil ds);
    calls = grows_same calls calls (same_itself calls);
    places = tells_same places places (same_itself places);
    opened = tells_same opened opened (same_itself opened);
    link_faults = omega arith;
    held = told;
    write_faults = omega arith;
    moments = counts_none u;
    last_moment = refl;
  }
