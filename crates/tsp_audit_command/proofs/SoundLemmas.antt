-- What is known of events and claimed lines, one step on.
use Rattle.std.proofs.Common.{refl, arith, ◌≡◌, ◌+◌, ◌≤◌, false, List, [], ◌∷◌, ◌++◌, length, ◌∙◌, ap, sym, subst, get_or, ℕ, ◌<◌, ◌^◌, drop, take, reverse}
use Rattle.std.proofs.Common.{Some}
use Rattle.std.proofs.lemmas.Option.{slice_get_within, get_or_from_slice_get, slice_get_read}
use Rattle.std.proofs.lemmas.List.{drop_more, length-append, length-map, reverse-append}
use Rattle.std.specs.List.{slice_get}
use Rattle.tsp_base.specs.{declared.event.Event.Event, declared.trace.Line2.Line2, Words.HeaderValue}
use Rattle.tsp_audit_command.specs.ClaimReaders.{tallied, ClaimReaderValue, FitsFirst, most_lines, pass_first}
use Rattle.tsp_audit_command.specs.Sound.{FitSoFar, FitAtHand, Sound, claims_by, claims_on, first_end}
use Rattle.tsp_audit_command.proofs.ClaimLemmas.{EndsAt_more, EndsAt_none, claims_on_more, passed_more}
use Rattle.tsp_audit_command.{proofs.PassLemmas.pass_whole, specs.Listings.AreListed, specs.Listings.IsAudited, specs.Listings.IsListed}
use Rattle.tsp_claims.specs.Fitting.{AllFit, counted, lacks, Fit, FitsNext, untold}
use Rattle.tsp_claims.{specs.declared.tally.Tally.Tally, proofs.FitLemmas.claims_of_step_few}
use Rattle.tsp_claims.specs.ClaimedHistory.{Claim, claimed, events_of, lines_in, posts_of}
use Rattle.tsp_claims.specs.{Stands.ClaimsStand, Stands.claim_of, declared.claims.Claims.Claims}
use Rattle.tsp_audit.specs.{Ends.AreDated, Ends.EndsAt, Premised.kept_with, Premised.premises_of, declared.premises.Premises.Premises}
use Rattle.tsp_history.specs.Histories.{history_of}

-- one line more
pub tallied_more : (t : Tally) (lines : List Line2) (l : Line2) → tallied t (lines ++ l ∷ []) ≡ counted (tallied t lines) l.placed.act
tallied_more t [] l = refl
tallied_more t (k ∷ rest) l = tallied_more (counted t k.placed.act) rest l

-- lines claim one post each at the most
pub tallied_posts : (t : Tally) (lines : List Line2) → (tallied t lines).posts ≤ t.posts + length lines
tallied_posts t [] = omega arith
tallied_posts t (k ∷ rest) = omega (arith, tallied_posts (counted t k.placed.act) rest, claims_of_step_few k.placed.act)

module _ (fits : Event → Tally → Line2 → Type 0) (e : Event) where
  -- a line that fits behind the others
  pub FitSoFar_more : (t : Tally) (lines : List Line2) (l : Line2) → FitSoFar fits e t lines → fits e (tallied t lines) l → FitSoFar fits e t (lines ++ l ∷ [])
  FitSoFar_more t [] l s f = (f, tt)
  FitSoFar_more t (k ∷ rest) l s f = (s.0, FitSoFar_more (counted t k.placed.act) rest l s.1 f)

  -- lines that fit, and with which nothing lacks, are all that is wanted
  pub AllFit_so_far : (t : Tally) (lines : List Line2) → FitSoFar fits e t lines → lacks e (tallied t lines) ≡ false → AllFit fits e t lines
  AllFit_so_far t [] s none = none
  AllFit_so_far t (k ∷ rest) s none = (s.0, AllFit_so_far (counted t k.placed.act) rest s.1 none)

-- the event with this index is at hand, and the rest behind it
pub ahead_at : {A : Type 0} (events : List A) (n : ℕ) (e : A) → slice_get events n ≡ Some e → drop n events ≡ (e ∷ drop (n + 1) events)
ahead_at events n e h = drop_more events n e (slice_get_within events n e h) ∙ ap (λ x. x ∷ drop (n + 1) events) (get_or_from_slice_get events n e e h)

-- what was read of a list is there
pub got_at : (xs items : List Event) (n m : ℕ) (e : Event) → xs ≡ items → n ≡ m → n < length xs → e ≡ get_or xs n e → slice_get items m ≡ Some e
got_at xs items n m e same at within is = subst (λ k. slice_get items k ≡ Some e) at (subst (λ ys. slice_get ys n ≡
    Some e) same (slice_get_read xs (length xs) n e refl within is))

-- of no lines all fit
FitAtHand_none : (header : HeaderValue) (passed : List Claim) (events : List Event) → FitAtHand header passed events []
FitAtHand_none header passed [] = refl
FitAtHand_none header passed (e ∷ rest) = tt

-- a line more that fits
FitAtHand_more : (header : HeaderValue) (passed : List Claim) (events : List Event) (lines : List Line2) (l : Line2) → FitAtHand header passed events lines →
    FitsFirst header passed lines events l → FitAtHand header passed events (lines ++ l ∷ [])
FitAtHand_more header passed [] lines l h f = absurd f
FitAtHand_more header passed (e ∷ rest) lines l h f = FitSoFar_more (FitsNext header passed) e untold lines l h f

-- nothing is claimed yet
pub Sound_begun : (header : HeaderValue) (events : List Event) (claims : Claims) (ends : List ℕ) (pending : List Line2) (premises : Premises) →
    IsAudited header → AreListed (length header.nodes) events → ClaimsStand header [] claims →
    ends ≡ [] → pending ≡ [] → claims.tally ≡ untold → premises ≡ premises_of header [] → Sound header events claims ends pending premises
Sound_begun header events claims ends pending premises audited listed stand ends_are pending_is tally_is premises_are =
    let none : claims_on events ends claims ≡ [] = ap (λ (t : List ℕ). claims_on events t claims) ends_are in
    let no_ends = ap (λ (t : List ℕ). length t) ends_are in
    let no_pending = ap (λ (t : List Line2). length t) pending_is in
    let counted_none = stand.told in
    record {
      header_is = audited;
      listed = listed;
      within = omega (arith, no_ends);
      stand = subst (λ cs. ClaimsStand header cs claims) (sym none) stand;
      dated = subst (λ cs. AreDated (length header.nodes) cs) (sym none) tt;
      ends_at = subst (λ cs. EndsAt header cs ends) (sym none) (subst (λ t. EndsAt header [] t) (sym ends_are) (EndsAt_none header));
      last_end = ap (λ (t : List ℕ). first_end (reverse t)) ends_are ∙ ap (λ (cs : List Claim). length (claimed header cs)) (sym none);
      events_are = ap (λ (cs : List Claim). events_of cs) none ∙ ap (λ (t : List ℕ). reverse (take (length t) events)) (sym ends_are);
      at_hand = subst (λ ls. FitAtHand header (claims_on events ends claims) (drop (length ends) events) ls) (sym pending_is)
          (FitAtHand_none header (claims_on events ends claims) (drop (length ends) events));
      tally_is = tally_is ∙ ap (λ ls. tallied untold ls) (sym pending_is);
      premises_are = premises_are ∙ ap (λ cs. premises_of header cs) (sym none);
      few_lines = omega (arith, counted_none, no_pending);
    }

pub view_begun : (header : HeaderValue) (events : List Event) (claims : Claims) (ends : List ℕ) (pending : List Line2) → ClaimsStand header [] claims → ends ≡
    [] → pending ≡ [] →
    ◌≡◌ {A = ClaimReaderValue} (record { header = claims.header; passed = claims_on events ends claims; told = pending; ahead = drop (length ends) events })
    (record { header = header; passed = []; told = []; ahead = events })
view_begun header events claims ends pending stand ends_are pending_is =
    let value : HeaderValue → List Claim → List Line2 → List Event → ClaimReaderValue = λ h cs ls es. record {
      header = h;
      passed = cs;
      told = ls;
      ahead = es;
    } in
    ap (λ (h : HeaderValue). value h (claims_on events ends claims) pending (drop (length ends) events)) stand.header_is
    ∙ (ap (λ (t : List ℕ). value header (claims_on events t claims) pending (drop (length t) events)) ends_are ∙
    ap (λ (ls : List Line2). value header [] ls events) pending_is)

module _ (header : HeaderValue) (events : List Event) (claims : Claims) (ends : List ℕ) (pending : List Line2) (premises : Premises)
    (s : Sound header events claims ends pending premises) where
  -- as many events were taken in as were passed
  pub passed_count : claims.events ≡ length ends
  passed_count = s.stand.count ∙ sym s.ends_at.many

  pub few_passed : length ends < length events → claims.events < 20000
  few_passed l = let few = s.listed.0 in omega (arith, passed_count, few, l)

  -- lines claim few posts
  pub few_posts : claims.tally.posts < 2 ^ 32
  few_posts = let many = tallied_posts untold pending in let is = ap (λ (t : Tally). t.posts) s.tally_is in let few = s.few_lines in
      omega (arith, many, is, few)

  module _ (e : Event) (at : slice_get events (length ends) ≡ Some e) where
    -- its lines fit, where it lacks nothing
    pub at-fit : lacks e claims.tally ≡ false → Fit header (claims_on events ends claims) e pending
    at-fit none = AllFit_so_far (FitsNext header (claims_on events ends claims)) e untold pending
        (subst (λ es. FitAtHand header (claims_on events ends claims) es pending) (ahead_at events (length ends) e at) s.at_hand)
        (subst (λ t. lacks e t ≡ false) s.tally_is none)

    -- it is at a time of a schedule, and its node exists
    pub at-listed : IsListed (length header.nodes) e
    at-listed = subst (λ x. IsListed (length header.nodes) x) (get_or_from_slice_get events (length ends) e e at)
        (s.listed.1 (length ends) e (slice_get_within events (length ends) e at))

    -- it is passed
    pub claims-passed : lacks e claims.tally ≡ false → (now : Claims) (more : List ℕ) (n : ℕ) →
        ClaimsStand header (claim_of e pending ∷ claims_on events ends claims) now → more ≡ ends ++ n ∷ [] → claims_on events more now ≡
        (claim_of e pending ∷ claims_on events ends claims)
    claims-passed none now more n stand more_is = claims_on_more header events claims now ends more e pending n at s.stand stand s.last_end (at-fit none)
        more_is

    pub Sound-passed : lacks e claims.tally ≡ false → (now : Claims) (more : List ℕ) (n : ℕ) (left : List Line2) (kept : Premises) →
        ClaimsStand header (claim_of e pending ∷ claims_on events ends claims) now →
        more ≡ ends ++ n ∷ [] → n ≡ length (claimed header (claim_of e pending ∷ claims_on events ends claims)) → left ≡ [] → now.tally ≡ untold →
        kept ≡ kept_with premises (reverse (take (length ends) events)) (posts_of header (claims_on events ends claims)) e →
        Sound header events now more left kept
    Sound-passed none now more n left kept stand more_is n_is left_is fresh_is kept_is =
        let passed = claims_on events ends claims in
        let claims_are : claims_on events more now ≡ (claim_of e pending ∷ passed) = claims-passed none now more n stand more_is in
        let within = slice_get_within events (length ends) e at in
        let long : length more ≡ length ends + 1 = ap (λ (t : List ℕ). length t) more_is ∙ length-append ends (n ∷ []) in
        let before = s.stand.told in
        let after = stand.told in
        let acts = length-map pending (λ (l : Line2). l.placed) in
        let lines = s.few_lines in
        record {
          header_is = s.header_is;
          listed = s.listed;
          within = omega (arith, long, within);
          stand = subst (λ cs. ClaimsStand header cs now) (sym claims_are) stand;
          dated = subst (λ cs. AreDated (length header.nodes) cs) (sym claims_are) (at-listed, s.dated);
          ends_at = subst (λ cs. EndsAt header cs more) (sym claims_are) (subst (λ t. EndsAt header (claim_of e pending ∷ passed) t) (sym more_is)
              (EndsAt_more header passed ends (claim_of e pending) n s.ends_at n_is));
          last_end = ap (λ (t : List ℕ). first_end (reverse t)) more_is ∙ (ap (λ (t : List ℕ). first_end t) (reverse-append ends (n ∷ [])) ∙
              (n_is ∙ ap (λ (cs : List Claim). length (claimed header cs)) (sym claims_are)));
          events_are = ap (λ (cs : List Claim). events_of cs) claims_are ∙ (ap (λ (es : List Event). e ∷ es) s.events_are ∙
              (sym (passed_more events (length ends) e at) ∙ ap (λ k. reverse (take k events)) (sym long)));
          at_hand = subst (λ ls. FitAtHand header (claims_on events more now) (drop (length more) events) ls) (sym left_is)
              (FitAtHand_none header (claims_on events more now) (drop (length more) events));
          tally_is = fresh_is ∙ ap (λ ls. tallied untold ls) (sym left_is);
          premises_are = kept_is ∙ (ap (λ es. kept_with premises es (posts_of header passed) e) (sym s.events_are) ∙
              (ap (λ p. kept_with p (events_of passed) (posts_of header passed) e) s.premises_are ∙ ap (λ cs. premises_of header cs) (sym claims_are)));
          few_lines = let none_left = ap (λ (ls : List Line2). length ls) left_is in omega (arith, before, after, acts, lines, none_left);
        }

    -- and this is how far the lines have come
    pub view-passed : lacks e claims.tally ≡ false → (now : Claims) (more : List ℕ) (n : ℕ) (left : List Line2) →
        ClaimsStand header (claim_of e pending ∷ claims_on events ends claims) now → more ≡ ends ++ n ∷ [] → left ≡ [] →
        pass_first header (claims_on events ends claims) pending (drop (length ends) events) ≡
        Some (record { header = now.header; passed = claims_on events more now; told = left; ahead = drop (length more) events })
    view-passed none now more n left stand more_is left_is =
        let passed = claims_on events ends claims in
        let ahead = ahead_at events (length ends) e at in
        let rest = drop (length ends + 1) events in
        let claims_are : claims_on events more now ≡ (claim_of e pending ∷ passed) = claims-passed none now more n stand more_is in
        let long : length more ≡ length ends + 1 = ap (λ (t : List ℕ). length t) more_is ∙ length-append ends (n ∷ []) in
        let value : HeaderValue → List Claim → List Line2 → List Event → ClaimReaderValue = λ h cs ls es. record {
          header = h;
          passed = cs;
          told = ls;
          ahead = es;
        } in
        ap (λ es. pass_first header passed pending es) ahead
        ∙ (pass_whole header passed pending e rest (subst (λ t. lacks e t ≡ false) s.tally_is none)
        ∙ ap (λ c. Some c) (ap (λ h. value h (claim_of e pending ∷ passed) [] rest) (sym stand.header_is) ∙
        (ap (λ cs. value now.header cs [] rest) (sym claims_are)
        ∙ (ap (λ ls. value now.header (claims_on events more now) ls rest) (sym left_is) ∙
        ap (λ n. value now.header (claims_on events more now) left (drop n events)) (sym long)))))

  -- claims that stand for the same hold the same
  pub claims_same : (now : Claims) → ClaimsStand header (claims_on events ends claims) now → claims_on events ends now ≡ claims_on events ends claims
  claims_same now stand =
      let same : history_of now.lines.lines ≡ history_of claims.lines.lines = stand.history ∙ sym s.stand.history in
      ap (λ h. claims_by (reverse (take (length ends) events)) (reverse ends) h) same

  -- a line is added
  pub Sound_added : (l : Line2) (more : List Line2) (now : Claims) → ClaimsStand header (claims_on events ends claims) now →
      FitsFirst header (claims_on events ends claims) pending (drop (length ends) events) l →
      lines_in (claims_on events ends claims) + length pending < most_lines →
      more ≡ pending ++ l ∷ [] → now.tally ≡ counted claims.tally l.placed.act → Sound header events now ends more premises
  Sound_added l more now stand fits room more_is counting_is =
      let long : length more ≡ length pending + 1 = ap (λ (t : List Line2). length t) more_is ∙ length-append pending (l ∷ []) in
      let told_is = stand.told in
      let are : claims_on events ends now ≡ claims_on events ends claims = claims_same now stand in
      record {
        header_is = s.header_is;
        listed = s.listed;
        within = s.within;
        stand = subst (λ (cs : List Claim). ClaimsStand header cs now) (sym are) stand;
        dated = subst (λ (cs : List Claim). AreDated (length header.nodes) cs) (sym are) s.dated;
        ends_at = subst (λ (cs : List Claim). EndsAt header cs ends) (sym are) s.ends_at;
        last_end = s.last_end ∙ ap (λ (cs : List Claim). length (claimed header cs)) (sym are);
        events_are = ap (λ (cs : List Claim). events_of cs) are ∙ s.events_are;
        at_hand = subst (λ (cs : List Claim). FitAtHand header cs (drop (length ends) events) more) (sym are)
            (subst (λ ls. FitAtHand header (claims_on events ends claims) (drop (length ends) events) ls) (sym more_is)
            (FitAtHand_more header (claims_on events ends claims) (drop (length ends) events) pending l s.at_hand fits));
        tally_is = counting_is ∙ (ap (λ t. counted t l.placed.act) s.tally_is ∙ (sym (tallied_more untold pending l) ∙
            ap (λ ls. tallied untold ls) (sym more_is)));
        premises_are = s.premises_are ∙ ap (λ (cs : List Claim). premises_of header cs) (sym are);
        few_lines = omega (arith, long, told_is, room);
      }

  -- and this is how far the lines have come
  pub view_added : (l : Line2) (more : List Line2) (now : Claims) → ClaimsStand header (claims_on events ends claims) now → more ≡ pending ++ l ∷ [] →
      ◌≡◌ {A = ClaimReaderValue} (record { header = now.header; passed = claims_on events ends now; told = more; ahead = drop (length ends) events })
      (record { header = header; passed = claims_on events ends claims; told = pending ++ l ∷ []; ahead = drop (length ends) events })
  view_added l more now stand more_is =
      let value : HeaderValue → List Claim → List Line2 → ClaimReaderValue = λ h cs ls. record {
        header = h;
        passed = cs;
        told = ls;
        ahead = drop (length ends) events;
      } in
      ap (λ h. value h (claims_on events ends now) more) stand.header_is ∙ (ap (λ cs. value header cs more) (claims_same now stand) ∙
      ap (λ ls. value header (claims_on events ends claims) ls) more_is)

  -- and all that is known stays
  pub Sound_kept : (now : Claims) → ClaimsStand header (claims_on events ends claims) now → now.tally ≡ claims.tally →
      Sound header events now ends pending premises
  Sound_kept now stand tally_is =
      let are : claims_on events ends now ≡ claims_on events ends claims = claims_same now stand in
      let told_is = stand.told in
      let told_was = s.stand.told in
      let lines = s.few_lines in
      record {
        header_is = s.header_is;
        listed = s.listed;
        within = s.within;
        stand = subst (λ (cs : List Claim). ClaimsStand header cs now) (sym are) stand;
        dated = subst (λ (cs : List Claim). AreDated (length header.nodes) cs) (sym are) s.dated;
        ends_at = subst (λ (cs : List Claim). EndsAt header cs ends) (sym are) s.ends_at;
        last_end = s.last_end ∙ ap (λ (cs : List Claim). length (claimed header cs)) (sym are);
        events_are = ap (λ (cs : List Claim). events_of cs) are ∙ s.events_are;
        at_hand = subst (λ (cs : List Claim). FitAtHand header cs (drop (length ends) events) pending) (sym are) s.at_hand;
        tally_is = tally_is ∙ s.tally_is;
        premises_are = s.premises_are ∙ ap (λ (cs : List Claim). premises_of header cs) (sym are);
        few_lines = omega (arith, told_is, told_was, lines);
      }
