-- What is read is a set text, and each set text is read.
use Rattle.std.proofs.Common.{inl, inr, ◌≡◌, ℕ, suc, ◌+◌, ◌<◌, ◌≤◌, Bool, true, false, cond, ◌&&◌, List, [], ◌∷◌, ◌++◌, length, Result, Ok, Err, refl, sym, ap, subst, ◌∙◌, arith, append_assoc}
use Rattle.std.proofs.lemmas.List.{append-nil}
use Rattle.ssim_records.specs.declared.set_fault.SetKind.{SetKind}
use Rattle.ssim_records.specs.declared.set_fault.SetFault.{SetFault}
use Rattle.std.specs.Prelude.{IfOk}
use Rattle.ssim_records.specs.declared.carrier.Carrier.{Carrier}
use Rattle.ssim_records.specs.declared.carrier.Leg.{Leg}
use Rattle.ssim_records.specs.declared.set.DataSet.{DataSet}
use Rattle.ssim_records.specs.declared.state.Phase.{Phase}
use Rattle.ssim_records.specs.declared.state.Phase.TheVariants.{Start, Open, Body, Done}
use Rattle.ssim_records.specs.declared.state.Reader.{Reader}
use Rattle.airline_base.specs.Bytes.{field, is_filler}
use Rattle.ssim_records.specs.SetFaults.{set_of, ReadsAs}
use Rattle.airline_base.specs.Chains.{◌>>=◌}
use Rattle.ssim_records.specs.SetSteps.{type_of, taken, within, step, fresh, header_step, carrier_step, body_step}
use Rattle.ssim_records.specs.SetText.{OneCut, OneDataSet, IsCut, IsSix, IsTyped, IsCarrier, IsLeg, IsTrailer, IsBody, IsNumbered, IsDataSet}
use Rattle.airline_base.proofs.Chains.{with_step}
use Rattle.ssim_records.proofs.RecordLaws.{done, ok_is, with_leg, with_segment, closed, header_step_takes, header_step_again, carrier_step_takes, carrier_step_again, leg_step_takes, leg_step_again, segment_step_takes, segment_step_again, trailer_step_takes, trailer_step_again, typed_takes, typed_again, body_takes_one, body_leg, body_segment, body_trailer}
use Rattle.ssim_records.proofs.Cuts.{cut_again}
use Rattle.ssim_records.proofs.SetReaches.{one_set}
use Rattle.std.proofs.lemmas.List.{length-append}
use Rattle.ssim_records.proofs.SetRuns.{run, plain, cuts_of, reaches_of, within_takes, within_again, numbered_of, sieve}

abbrev in_body : Carrier → ℕ → List Leg → ℕ → Reader
in_body c n ls k = record { phase = Body c; count = n; legs = ls; segments = k }

abbrev at_done : Carrier → ℕ → List Leg → ℕ → Reader
at_done c n ls k = record { phase = Done c; count = n; legs = ls; segments = k }

-- the records behind the carrier's, with what they say
pub record Rest (most : ℕ) (c : Carrier) (n : ℕ) (ls : List Leg) (k : ℕ) (t : Reader) (texts : List (List ℕ)) : Type 0 where
  pub body : List (List ℕ)
  pub trailer : List ℕ
  pub flown : List Leg
  pub others : ℕ
  pub split : texts ≡ body ++ trailer ∷ []
  pub is_body : IsBody c.airline n body flown others
  pub numbered : IsNumbered n (body ++ trailer ∷ [])
  pub begins : ls ≡ [] → (text : List ℕ) (more : List (List ℕ)) → body ≡ text ∷ more → IsTyped 51 text
  pub is_trailer : IsTrailer c.airline (length body + n + 1) trailer
  pub few : length body + n + 1 ≤ most
  pub phase_is : t.phase ≡ Done c
  pub all_legs : t.legs ≡ ls ++ flown
  pub all_segments : t.segments ≡ k + others

head_is : (a b : List ℕ) (x y : List (List ℕ)) → a ∷ x ≡ b ∷ y → a ≡ b
head_is a b x y e = cc

no_record : (b : List ℕ) (y : List (List ℕ)) → [] ≡ b ∷ y → ⊥
no_record b y e = cc

leg_more : (most : ℕ) (c : Carrier) (n : ℕ) (ls : List Leg) (k : ℕ) (t : Reader) (text : List ℕ) (texts : List (List ℕ))
    (leg : Leg) → IsLeg c.airline text leg → leg.serial ≡ n + 1 → IsSix (field 195 200 text) (n + 1)
    → Rest most c (n + 1) (ls ++ leg ∷ []) k t texts → Rest most c n ls k t (text ∷ texts)
leg_more most c n ls k t text texts leg is number six r =
    let last : length r.body + (n + 1) + 1 ≡ suc (length r.body) + n + 1 = omega arith in
    let few : length r.body + (n + 1) + 1 ≤ most = r.few in
    record {
      body = text ∷ r.body;
      trailer = r.trailer;
      flown = leg ∷ r.flown;
      others = r.others;
      split = ap (λ (x : List (List ℕ)). text ∷ x) r.split;
      is_body = inl (leg, r.flown, is, number, refl, r.is_body);
      numbered = (six, r.numbered);
      begins = λ none x more e. subst (IsTyped 51) (head_is text x r.body more e) is.typed;
      is_trailer = subst (λ (i : ℕ). IsTrailer c.airline i r.trailer) last r.is_trailer;
      few = subst (λ (i : ℕ). i ≤ most) last few;
      phase_is = r.phase_is;
      all_legs = r.all_legs ∙ append_assoc ls (leg ∷ []) r.flown;
      all_segments = r.all_segments;
    }

segment_more : (most : ℕ) (c : Carrier) (n : ℕ) (ls : List Leg) (k : ℕ) (t : Reader) (text : List ℕ)
    (texts : List (List ℕ)) → IsTyped 52 text → (ls ≡ [] → ⊥) → IsSix (field 195 200 text) (n + 1)
    → Rest most c (n + 1) ls (k + 1) t texts → Rest most c n ls k t (text ∷ texts)
segment_more most c n ls k t text texts typed some six r =
    let last : length r.body + (n + 1) + 1 ≡ suc (length r.body) + n + 1 = omega arith in
    let few : length r.body + (n + 1) + 1 ≤ most = r.few in
    let all : t.segments ≡ k + 1 + r.others = r.all_segments in
    record {
      body = text ∷ r.body;
      trailer = r.trailer;
      flown = r.flown;
      others = r.others + 1;
      split = ap (λ (x : List (List ℕ)). text ∷ x) r.split;
      is_body = inr (r.others, typed, refl, r.is_body);
      numbered = (six, r.numbered);
      begins = λ none x more e. absurd (some none);
      is_trailer = subst (λ (i : ℕ). IsTrailer c.airline i r.trailer) last r.is_trailer;
      few = subst (λ (i : ℕ). i ≤ most) last few;
      phase_is = r.phase_is;
      all_legs = r.all_legs;
      all_segments = omega (arith, all);
    }

after_done : (most : ℕ) (c : Carrier) (n : ℕ) (ls : List Leg) (k : ℕ) (texts : List (List ℕ)) (t : Reader)
    → plain most (at_done c n ls k) texts ≡ Ok t → (texts ≡ []) × (at_done c n ls k ≡ t)
unfolding done
after_done most c n ls k [] t h = (refl, ok_is (at_done c n ls k) t h)
after_done most c n ls k (text ∷ texts) t h = absurd cc

trailer_more : (most : ℕ) (c : Carrier) (n : ℕ) (ls : List Leg) (k : ℕ) (t : Reader) (text : List ℕ)
    (texts : List (List ℕ)) → IsTrailer c.airline (n + 1) text → IsSix (field 195 200 text) (n + 1) → n < most
    → plain most (at_done c (n + 1) ls k) texts ≡ Ok t → Rest most c n ls k t (text ∷ texts)
trailer_more most c n ls k t text texts is six lt h =
    let e = after_done most c (n + 1) ls k texts t h in
    let last : n + 1 ≡ 0 + n + 1 = omega arith in
    record {
      body = [];
      trailer = text;
      flown = [];
      others = 0;
      split = ap (λ (x : List (List ℕ)). text ∷ x) e.0;
      is_body = (refl, refl);
      numbered = (six, tt);
      begins = λ none x more q. absurd (no_record x more q);
      is_trailer = subst (λ (i : ℕ). IsTrailer c.airline i text) last is;
      few = omega arith;
      phase_is = ap (λ (x : Reader). x.phase) (sym e.1);
      all_legs = ap (λ (x : Reader). x.legs) (sym e.1) ∙ sym (append-nil ls);
      all_segments = let q : t.segments ≡ k = ap (λ (x : Reader). x.segments) (sym e.1) in omega (arith, q);
    }

wrong_end : (p q : Phase) (c d : Carrier) → Body c ≡ p → p ≡ Done d → ⊥
wrong_end p q c d e f = of (e ∙ f)
  where
    of : Body c ≡ Done d → ⊥
    of h = cc

pub rest_takes : (most : ℕ) (c : Carrier) (texts : List (List ℕ)) (n : ℕ) (ls : List Leg) (k : ℕ) (t : Reader)
    (d : Carrier) → plain most (in_body c n ls k) texts ≡ Ok t → t.phase ≡ Done d → Rest most c n ls k t texts
unfolding done
rest_takes most c [] n ls k t d h end = absurd (wrong_end t.phase t.phase c d (ap (λ (x : Reader). x.phase) (ok_is (in_body c n ls k) t h)) end)
rest_takes most c (text ∷ texts) n ls k t d h end =
    with_step (within most (in_body c n ls k) (body_step (type_of text) c (in_body c n ls k) text)) (λ u. plain most u texts) t h (λ u e more.
    let w = within_takes most (in_body c n ls k) (body_step (type_of text) c (in_body c n ls k) text) u e in
    elim (body_takes_one (type_of text) c (in_body c n ls k) text u w.0) [
      | inl p ↦
          let m = leg_step_takes c (in_body c n ls k) text u (typed_takes 51 text (omega arith) p.0) p.1 in
          leg_more most c n ls k t text texts m.0 m.1 m.2 m.3 (rest_takes most c texts (n + 1) (ls ++ m.0 ∷ []) k t d (subst (λ (x : Reader). plain most x texts ≡ done t) (sym m.4) more) end)
      | inr (inl p) ↦
          let m = segment_step_takes (in_body c n ls k) text u p.1 in
          segment_more most c n ls k t text texts (typed_takes 52 text (omega arith) p.0) m.0 m.1 (rest_takes most c texts (n + 1) ls (k + 1) t d (subst (λ (x : Reader). plain most x texts ≡ done t) (sym m.2) more) end)
      | inr (inr p) ↦
          let m = trailer_step_takes c (in_body c n ls k) text u (typed_takes 53 text (omega arith) p.0) p.1 in
          trailer_more most c n ls k t text texts m.0 m.1 w.1 (subst (λ (x : Reader). plain most x texts ≡ done t) (sym m.2) more)
    ])

-- ---- what is so formed is read

abbrev Begins : List Leg → List (List ℕ) → Type 0
Begins ls body = ls ≡ [] → (text : List ℕ) (more : List (List ℕ)) → body ≡ text ∷ more → IsTyped 51 text

-- one record, and then the others
then_plain : (most : ℕ) (s u : Reader) (text : List ℕ) (texts : List (List ℕ)) → taken s.phase s text ≡ Ok u
    → s.count < most → plain most s (text ∷ texts) ≡ plain most u texts
then_plain most s u text texts h lt = ap (λ (r : Result Reader SetKind). r >>= (λ t. plain most t texts)) (within_again most s (taken s.phase s text) u h lt)

not_both : (text : List ℕ) → IsTyped 51 text → IsTyped 52 text → ⊥
not_both text p q = let no : 51 ≡ 52 = sym (typed_again 51 text p) ∙ typed_again 52 text q in absurd (omega (arith, no))

full : (ls : List Leg) (leg : Leg) → ls ++ leg ∷ [] ≡ [] → ⊥
full [] leg e = cc
full (x ∷ ls) leg e = cc

pub rest_again : (most : ℕ) (c : Carrier) (body : List (List ℕ)) (trailer : List ℕ) (n : ℕ) (ls flown : List Leg)
    (k others : ℕ)
    → IsBody c.airline n body flown others → IsNumbered n (body ++ trailer ∷ []) → Begins ls body
    → IsTrailer c.airline (length body + n + 1) trailer → length body + n + 1 ≤ most
    → plain most (in_body c n ls k) (body ++ trailer ∷ [])
    ≡ Ok (at_done c (length body + n + 1) (ls ++ flown) (k + others))
rest_again most c [] trailer n ls flown k others is numbered begins is_trailer few =
    let last : 0 + n + 1 ≡ n + 1 = omega arith in
    let legs : ls ≡ ls ++ flown = sym (append-nil ls) ∙ ap (λ (x : List Leg). ls ++ x) (sym is.0) in
    let count : k ≡ k + others = omega (arith, is.1) in
    then_plain most (in_body c n ls k) (closed c (in_body c n ls k)) trailer []
    (body_trailer c (in_body c n ls k) trailer is_trailer.typed ∙ trailer_step_again c (in_body c n ls k) trailer (subst (λ (i : ℕ). IsTrailer c.airline i trailer) last is_trailer) numbered.0) (omega arith)
    ∙ ap (λ (i : ℕ). ok_of (at_done c i ls k)) (sym last) ∙ ap (λ (x : List Leg). ok_of (at_done c (0 + n + 1) x k)) legs ∙ ap (λ (i : ℕ). ok_of (at_done c (0 + n + 1) (ls ++ flown) i)) count
  where
    ok_of : Reader → Result Reader SetKind
    ok_of x = Ok x
rest_again most c (text ∷ body) trailer n ls flown k others (inl is) numbered begins is_trailer few =
    let leg = is.0 in
    let last : suc (length body) + n + 1 ≡ length body + (n + 1) + 1 = omega arith in
    let low : n < most = omega (arith, few) in
    let legs : (ls ++ leg ∷ []) ++ is.1 ≡ ls ++ flown = append_assoc ls (leg ∷ []) is.1 ∙ ap (λ (x : List Leg). ls ++ x) (sym is.4) in
    then_plain most (in_body c n ls k) (with_leg leg (in_body c n ls k)) text (body ++ trailer ∷ [])
    (body_leg c (in_body c n ls k) text is.2.typed ∙ leg_step_again c (in_body c n ls k) text leg is.2 is.3 numbered.0) low
    ∙ rest_again most c body trailer (n + 1) (ls ++ leg ∷ []) is.1 k others is.5 numbered.1 (λ none. absurd (full ls leg none))
    (subst (λ (i : ℕ). IsTrailer c.airline i trailer) last is_trailer) (subst (λ (i : ℕ). i ≤ most) last few)
    ∙ ap (λ (i : ℕ). ok_of (at_done c i ((ls ++ leg ∷ []) ++ is.1) (k + others))) (sym last)
    ∙ ap (λ (x : List Leg). ok_of (at_done c (suc (length body) + n + 1) x (k + others))) legs
  where
    ok_of : Reader → Result Reader SetKind
    ok_of x = Ok x
rest_again most c (text ∷ body) trailer n ls flown k others (inr is) numbered begins is_trailer few =
    let last : suc (length body) + n + 1 ≡ length body + (n + 1) + 1 = omega arith in
    let low : n < most = omega (arith, few) in
    let count : k + 1 + is.0 ≡ k + others = omega (arith, is.2) in
    let some : ls ≡ [] → ⊥ = λ none. not_both text (begins none text body refl) is.1 in
    then_plain most (in_body c n ls k) (with_segment (in_body c n ls k)) text (body ++ trailer ∷ [])
    (body_segment c (in_body c n ls k) text is.1 ∙ segment_step_again (in_body c n ls k) text some numbered.0) low
    ∙ rest_again most c body trailer (n + 1) ls flown (k + 1) is.0 is.3 numbered.1 (λ none. absurd (some none))
    (subst (λ (i : ℕ). IsTrailer c.airline i trailer) last is_trailer) (subst (λ (i : ℕ). i ≤ most) last few)
    ∙ ap (λ (i : ℕ). ok_of (at_done c i (ls ++ flown) (k + 1 + is.0))) (sym last)
    ∙ ap (λ (i : ℕ). ok_of (at_done c (suc (length body) + n + 1) (ls ++ flown) i)) count
  where
    ok_of : Reader → Result Reader SetKind
    ok_of x = Ok x

-- ---- the whole

abbrev at_open : Reader
at_open = record { phase = Open; count = 1; legs = []; segments = 0 }

carrier_rest : (most : ℕ) (texts : List (List ℕ)) (t : Reader) (d : Carrier) → plain most at_open texts ≡ Ok t
    → t.phase ≡ Done d
    → (text : List ℕ) × (c : Carrier) × (others : List (List ℕ)) × (texts ≡ text ∷ others) × IsCarrier text c
    × IsSix (field 195 200 text) 2 × Rest most c 2 [] 0 t others
unfolding done
carrier_rest most [] t d h end = absurd (open_end_of (ap (λ (x : Reader). x.phase) (ok_is at_open t h) ∙ end))
  where
    open_end_of : Open ≡ Done d → ⊥
    open_end_of e = cc
carrier_rest most (text ∷ texts) t d h end =
    with_step (within most at_open (carrier_step at_open text)) (λ u. plain most u texts) t h (λ u e more.
    let w = within_takes most at_open (carrier_step at_open text) u e in
    let m = carrier_step_takes at_open text u w.0 in
    (text, m.0, texts, refl, m.1, m.2, rest_takes most m.0 texts 2 [] 0 t d (subst (λ (x : Reader). plain most x texts ≡ done t) (sym m.3) more) end))

abbrev made : Carrier → List Leg → ℕ → DataSet
made c legs segments = record { carrier = c; legs = legs; segments = segments }

done_is : (c d : Carrier) → Done c ≡ Done d → c ≡ d
done_is c d h = cc

set_is : (s : Reader) (c d : Carrier) (legs : List Leg) (segments : ℕ) (set : DataSet) → s.phase ≡ Done d
    → s.phase ≡ Done c → s.legs ≡ legs → s.segments ≡ segments → set_of d s ≡ set → made c legs segments ≡ set
set_is s c d legs segments set p q l k e =
    ap (λ (x : Carrier). made x legs segments) (done_is c d (sym q ∙ p)) ∙ ap (λ (x : List Leg). made d x segments) (sym l) ∙ ap (λ (x : ℕ). made d s.legs x) (sym k) ∙ e

step_start : (most : ℕ) (text : List ℕ) → step most fresh text ≡ within most fresh (header_step fresh text)
unfolding step done
step_start most text = of (is_filler text)
  where
    of : (b : Bool)
        → cond (b && false) (done fresh) (within most fresh (header_step fresh text))
        ≡ within most fresh (header_step fresh text)
    of true = refl
    of false = refl

from_none : (a b : ℕ) → a ≡ 0 + b → a ≡ b
from_none a b h = omega (arith, h)

header_first : (most : ℕ) (texts : List (List ℕ)) (bytes : List ℕ) (t : Reader) (d : Carrier) (set : DataSet)
    → IsCut bytes texts → run most fresh texts ≡ Ok t → t.phase ≡ Done d → set_of d t ≡ set → IsDataSet most bytes set
unfolding done
header_first most [] bytes t d set cut h end is = absurd (start_end (ap (λ (x : Reader). x.phase) (ok_is fresh t h) ∙ end))
  where
    start_end : Start ≡ Done d → ⊥
    start_end e = cc
header_first most (header ∷ others) bytes t d set cut h end is =
    with_step (step most fresh header) (λ u. run most u others) t h (λ u e more.
    let w = within_takes most fresh (header_step fresh header) u (sym (step_start most header) ∙ e) in
    let m = header_step_takes fresh header u w.0 in
    let on : run most at_open others ≡ Ok t = subst (λ (x : Reader). run most x others ≡ done t) (sym m.2) more in
    let c = carrier_rest most (numbered_of others) t d (sym (sieve most others at_open refl) ∙ on) end in
    let r = c.6 in
    let three : length r.body + 2 + 1 ≡ length r.body + 3 = omega arith in
    let few : length r.body + 2 + 1 ≤ most = r.few in
    let text : IsDataSet most bytes (made c.1 r.flown r.others) = record {
      header = header;
      others = others;
      carrier = c.0;
      body = r.body;
      trailer = r.trailer;
      cut = cut;
      is_header = m.0;
      order = c.3 ∙ ap (λ (x : List (List ℕ)). c.0 ∷ x) r.split;
      numbered = (m.1, (c.5, r.numbered));
      is_carrier = c.4;
      is_body = r.is_body;
      begins = r.begins refl;
      is_trailer = subst (λ (i : ℕ). IsTrailer c.1.airline i r.trailer) three r.is_trailer;
      few = subst (λ (i : ℕ). i ≤ most) three few;
    } in
    subst (IsDataSet most bytes) (set_is t c.1 d r.flown r.others set end r.phase_is r.all_legs (from_none t.segments r.others r.all_segments) is) text)

-- what is read is a set text
pub reads_is : (most : ℕ) (bytes : List ℕ) (set : DataSet) → ReadsAs most bytes set → IsDataSet most bytes set
reads_is most bytes set h =
    let cut = cuts_of most h.0 fresh h.1 bytes h.3 in
    first cut.0 cut.1 cut.2
  where
    first : (texts : List (List ℕ)) → IsCut bytes texts → run most fresh texts ≡ Ok h.1 → IsDataSet most bytes set
    first texts cut e = header_first most texts bytes h.1 h.2 set cut e h.4 h.5

-- a set text is read
pub is_reads : (most : ℕ) (bytes : List ℕ) (set : DataSet) → IsDataSet most bytes set → ReadsAs most bytes set
unfolding done
is_reads most bytes set h =
    let c = set.carrier in
    let last : length h.body + 3 ≡ length h.body + 2 + 1 = omega arith in
    let few : length h.body + 3 ≤ most = h.few in
    let low : 1 < most = omega (arith, few) in
    let none_more : 0 + set.segments ≡ set.segments = omega arith in
    let least : 0 < most = omega (arith, few) in
    let t = at_done c (length h.body + 2 + 1) set.legs set.segments in
    let one : step most fresh h.header ≡ Ok at_open = step_start most h.header ∙ within_again most fresh (header_step fresh h.header) at_open (header_step_again fresh h.header h.is_header h.numbered.0) least in
    let two : plain most at_open (h.carrier ∷ h.body ++ h.trailer ∷ []) ≡ plain most (in_body c 2 [] 0) (h.body ++ h.trailer ∷ []) =
    then_plain most at_open (in_body c 2 [] 0) h.carrier (h.body ++ h.trailer ∷ []) (carrier_step_again at_open h.carrier c h.is_carrier h.numbered.1.0) low in
    let three : plain most (in_body c 2 [] 0) (h.body ++ h.trailer ∷ []) ≡ done t =
    rest_again most c h.body h.trailer 2 [] set.legs 0 set.segments h.is_body h.numbered.1.1 (λ none. h.begins)
    (subst (λ (i : ℕ). IsTrailer c.airline i h.trailer) last h.is_trailer) (subst (λ (i : ℕ). i ≤ most) last few)
    ∙ ap (λ (i : ℕ). done (at_done c (length h.body + 2 + 1) set.legs i)) none_more in
    let others : run most at_open h.others ≡ done t = sieve most h.others at_open refl ∙ ap (plain most at_open) h.order ∙ two ∙ three in
    let all : run most fresh (h.header ∷ h.others) ≡ done t = ap (λ (r : Result Reader SetKind). r >>= (λ u. run most u h.others)) one ∙ others in
    (length (h.header ∷ h.others), t, c, reaches_of most (h.header ∷ h.others) fresh t bytes h.cut all, refl, refl)

pub is_found : (most : ℕ) (bytes : List ℕ) (r : Result DataSet SetFault) → IfOk r (ReadsAs most bytes)
    → IfOk r (IsDataSet most bytes)
is_found most bytes (Ok set) h = reads_is most bytes set h
is_found most bytes (Err f) h = tt

-- ---- one data set at most

more_records : (m n : ℕ) (bytes : List ℕ) (set : DataSet) → m ≤ n → IsDataSet m bytes set → IsDataSet n bytes set
more_records m n bytes set le h =
    let few : length h.body + 3 ≤ m = h.few in
    record {
      header = h.header;
      others = h.others;
      carrier = h.carrier;
      body = h.body;
      trailer = h.trailer;
      cut = h.cut;
      is_header = h.is_header;
      order = h.order;
      numbered = h.numbered;
      is_carrier = h.is_carrier;
      is_body = h.is_body;
      begins = h.begins;
      is_trailer = h.is_trailer;
      few = omega (arith, few, le);
    }

pub one_data_set : OneDataSet
one_data_set m n bytes a b h k =
    one_set (m + n) bytes a b (is_reads (m + n) bytes a (more_records m (m + n) bytes a (omega arith) h)) (is_reads (m + n) bytes b (more_records n (m + n) bytes b (omega arith) k))

-- ---- one cut at most

no_bytes : (bytes text : List ℕ) (texts : List (List ℕ)) → bytes ≡ [] → IsCut bytes (text ∷ texts) → ⊥
no_bytes bytes text texts none h =
    let len : length bytes ≡ length text + length (h.0 ++ h.1) = ap length h.5 ∙ length-append text (h.0 ++ h.1) in
    let zero_is : length bytes ≡ 0 = ap length none in
    omega (arith, len, zero_is, h.2)

pub one_cut : OneCut
unfolding done
one_cut bytes [] [] h k = refl
one_cut bytes [] (y ∷ ys) h k = absurd (no_bytes bytes y ys h k)
one_cut bytes (x ∷ xs) [] h k = absurd (no_bytes bytes x xs k h)
one_cut bytes (x ∷ xs) (y ∷ ys) h k =
    let same : ◌≡◌ {A = List ℕ × List ℕ} (x, h.1) (y, k.1) = ok_is {A = List ℕ × List ℕ} (x, h.1) (y, k.1) (sym (cut_again bytes x xs h) ∙ cut_again bytes y ys k) in
    let rest : h.1 ≡ k.1 = ap (λ (p : List ℕ × List ℕ). p.1) same in
    ap (λ (p : List ℕ × List ℕ). p.0 ∷ xs) same ∙ ap (λ (l : List (List ℕ)). y ∷ l) (one_cut k.1 xs ys (subst (λ (b : List ℕ). IsCut b xs) rest h.6) k.6)
