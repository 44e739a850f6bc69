-- Why the content of a text is that of its lines up to the ending: the theorem behind `TextList::new`.
use Rattle.std.proofs.Common.{◌≡◌, ℕ, zero, suc, ◌+◌, ◌<◌, ◌≤◌, Bool, true, false, cond, leb, ◌⊎◌, List, [], ◌∷◌, ◌++◌, length, get_or, take, sym, refl, ap, ◌∙◌, subst, inl, inr, ⊎_elim, add-zero, arith}
use Rattle.std.proofs.lemmas.List.{length-append}
use Rattle.std.proofs.lemmas.Bool.{leb-true, leb-false}
use Rattle.text.specs.Refusals.{Refused, at_byte}
use Rattle.words.specs.Words.{Headword}
use Rattle.words.specs.Line.{Reading, blank, spells, refused, reading}
use Rattle.text.specs.Lines.{lines_of}
use Rattle.lists.specs.Listing.{fullest, Ending, stops, Content, overfull}
use Rattle.lists.specs.Texts.{content_by, content_from, text_content, word_in, spelled_by, Passes, EndsThere, Listed}
use Rattle.lists.proofs.Steps.{some_bytes, spells_not, refused_not}

-- ---- a line that is passed

pass_more : (n : ℕ) (l : List ℕ) (ls : List (List ℕ)) (k : ℕ) → Passes (reading n l) → ((i : ℕ) → i < k → Passes (reading (suc n + i) (get_or ls i []))) →
    (i : ℕ) → i < suc k → Passes (reading (n + i) (get_or (l ∷ ls) i []))
pass_more n l ls k p f zero h = subst (λ (x : ℕ). Passes (reading x l)) (sym (add-zero n)) p
pass_more n l ls k p f (suc i) h = let q : suc n + i ≡ n + suc i = omega arith in subst (λ (x : ℕ). Passes (reading x (get_or ls i []))) q (f i (omega arith))

ends_more : (n : ℕ) (l : List ℕ) (ls : List (List ℕ)) (k c d : ℕ) (e : Ending) → c ≡ d → EndsThere (suc n) ls k c e → EndsThere n (l ∷ ls) (suc k) d e
ends_more n l ls k c d (inl u) q h = ap suc h
ends_more n l ls k c d (inr r) q h =
    let s : suc n + k ≡ n + suc k = omega arith in (
      omega (arith, h.0),
      h.1,
      ⊎_elim
          (λ p. inl (sym q ∙ p.0, p.1 ∙ ap (λ (x : ℕ). at_byte 9 x 1) s))
          (λ p. inr (omega (arith, p.0), ap (λ (x : ℕ). reading x (get_or ls k [])) (sym s) ∙ p.1))
          h.2,
    )

listed_more : (n c c' : ℕ) (l : List ℕ) (ls : List (List ℕ)) (content : Content) (r : Reading) → reading n l ≡ r → Passes r → c + length (word_in r) ≡ c' →
    Listed (suc n) c' ls content → Listed n c (l ∷ ls) (word_in r ++ content.0, content.1)
listed_more n c c' l ls content r e p q h =
    let s : c' + length content.0 ≡ c + length (word_in r ++ content.0) = omega (arith, length-append (word_in r) content.0) in
    record {
      passed = suc h.passed;
      all = omega (arith, h.all);
      words = ap (λ (x : List Headword). word_in r ++ x) h.words ∙ ap (λ (x : Reading). word_in x ++ spelled_by (suc n) (take h.passed ls)) (sym e);
      pass = pass_more n l ls h.passed (subst Passes (sym e) p) h.pass;
      ends = ends_more n l ls h.passed _ _ content.1 s h.ends;
    }

-- ---- a line at which the list stops

listed_stop : (n c : ℕ) (l : List ℕ) (ls : List (List ℕ)) (r : Refused) → 0 < length l →
    ((c ≡ fullest) × (r ≡ at_byte 9 n 1)) ⊎ ((c < fullest) × (reading n l ≡ refused r)) → Listed n c (l ∷ ls) ([], stops r)
listed_stop n c l ls r h w =
    record {
      passed = 0;
      all = omega arith;
      words = refl;
      pass = λ i q. absurd (omega arith);
      ends = (
        omega arith,
        h,
        ⊎_elim
            (λ p. inl (add-zero c ∙ p.0, p.1 ∙ ap (λ (x : ℕ). at_byte 9 x 1) (sym (add-zero n))))
            (λ p. inr (omega (arith, p.0), ap (λ (x : ℕ). reading x l) (add-zero n) ∙ p.1))
            w,
      );
    }

-- past the last word, or not
module _ (n c : ℕ) (l : List ℕ) (ls : List (List ℕ)) (few : c ≤ fullest) (some : 0 < length l) where
  listed_cond : (b : Bool) → leb fullest c ≡ b → (content : Content) → (c < fullest → Listed n c (l ∷ ls) content) → Listed n c (l ∷ ls) (cond b (overfull n) content)
  listed_cond true e content f = let h = leb-true fullest c e in listed_stop n c l ls (at_byte 9 n 1) some (inl (omega arith, refl))
  listed_cond false e content f = f (leb-false fullest c e)

listed_by : (n c : ℕ) (l : List ℕ) (ls : List (List ℕ)) (without more : Content) → c ≤ fullest → Listed (suc n) c ls without → (c < fullest → Listed (suc n) (suc c) ls more) →
    (r : Reading) → reading n l ≡ r → Listed n c (l ∷ ls) (content_by r n c without more)
listed_by n c l ls without more few h f blank e = listed_more n c c l ls without blank e tt (add-zero c) h
listed_by n c l ls without more few h f (spells w) e =
    listed_cond n c l ls few (some_bytes n l (spells_not n l w e)) (leb fullest c) refl (w ∷ more.0, more.1)
    (λ q. listed_more n c (suc c) l ls more (spells w) e tt (omega arith) (f q))
listed_by n c l ls without more few h f (refused r) e =
    let s = some_bytes n l (refused_not n l r e) in
    listed_cond n c l ls few s (leb fullest c) refl ([], stops r) (λ q. listed_stop n c l ls r s (inr (q, e)))

listed_from : (ls : List (List ℕ)) (n c : ℕ) → c ≤ fullest → Listed n c ls (content_from n c ls)
unfolding content_from
listed_from [] n c h = record { passed = 0; all = omega arith; words = refl; pass = λ i q. absurd (omega arith); ends = refl }
listed_from (l ∷ ls) n c h =
    listed_by n c l ls (content_from (suc n) c ls) (content_from (suc n) (suc c) ls) h (listed_from ls (suc n) c h) (λ q. listed_from ls (suc n) (suc c) q) (reading n l) refl

pub listed : (text : List ℕ) → Listed 1 0 (lines_of text) (text_content text)
listed text = listed_from (lines_of text) 1 0 (omega arith)
