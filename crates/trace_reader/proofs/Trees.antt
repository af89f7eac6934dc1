-- The tree that is read is the one that is written.
use Rattle.std.proofs.Common.{ℕ, ◌≡◌, ◌<◌, ◌^◌, List, [], ◌++◌, codes, decimal, Option, Some, None, Result, Ok, Err, IfOk, refl, sym, ap, ◌∙◌}
use Rattle.std.proofs.Common.{append_assoc}
use Rattle.std.proofs.lemmas.List.{append-nil}
use Rattle.spec_core.specs.Code.{Program}
use Rattle.spec_core.specs.Lists.{Each}
use Rattle.rule_model.specs.declared.rules.Rules.{Rules}
use Rattle.rule_model.specs.declared.rules.Slot.{Slot}
use Rattle.rule_model.specs.Derivations.{Derivation, derivation_of, pre, int, exiting, chl, chr, val, gate, guard, letting, parl, parr, both, hiding, pass}
use Rattle.rule_model.specs.Derivations.{enstep, enend, disstep, disend, distake, calling, rel}
use Rattle.trace_text.specs.Fits.{SlotFits, TreeFits}
use Rattle.trace_text.specs.Names.{names_in}
use Rattle.trace_text.specs.Trace.{Names, slot_text, slots_text, tree_text}
use Rattle.trace_reader.specs.declared.rule_word.RuleWord.{RuleWord}
use Rattle.trace_reader.specs.declared.rule_word.RuleWord.TheVariants as rules
use Rattle.trace_reader.specs.declared.rule_word.Unary.{Unary}
use Rattle.trace_reader.specs.declared.rule_word.Unary.TheVariants as unary
use Rattle.trace_reader.specs.Cursors.{EndsTree, Finds, past}
use Rattle.trace_reader.specs.RuleWords.{over, rule_word}

-- the rule at the root
abbrev top : Derivation → RuleWord
top (pre slots) = rules.Pre
top int = rules.Int
top (exiting slots) = rules.Exit
top (val slot d) = rules.Val
top (gate place d) = rules.Gate
top (both d e) = rules.Both
top (chl d) = rules.Over unary.Chl
top (chr d) = rules.Over unary.Chr
top (guard d) = rules.Over unary.Guard
top (letting d) = rules.Over unary.Let
top (parl d) = rules.Over unary.Parl
top (parr d) = rules.Over unary.Parr
top (hiding d) = rules.Over unary.Hide
top (pass d) = rules.Over unary.Pass
top (enstep d) = rules.Over unary.Enstep
top (enend d) = rules.Over unary.Enend
top (disstep d) = rules.Over unary.Disstep
top (disend d) = rules.Over unary.Disend
top (distake d) = rules.Over unary.Distake
top (calling d) = rules.Over unary.Call
top (rel d) = rules.Over unary.Rel

module _ (program : Program) where
  abbrev names : Names
  names = names_in program

  abbrev tree : Derivation → List ℕ
  tree d = tree_text names d

  -- what stands behind the word of the rule at the root
  abbrev behind_top : Derivation → List ℕ → List ℕ
  behind_top (pre slots) rest = slots_text names slots ++ rest
  behind_top int rest = rest
  behind_top (exiting slots) rest = slots_text names slots ++ rest
  behind_top (val slot d) rest = slot_text names slot ++ (codes "](" ++ (tree d ++ (codes ")" ++ rest)))
  behind_top (gate place d) rest = decimal place ++ (codes "](" ++ (tree d ++ (codes ")" ++ rest)))
  behind_top (both d e) rest = tree d ++ (codes "," ++ (tree e ++ (codes ")" ++ rest)))
  behind_top (chl d) rest = tree d ++ (codes ")" ++ rest)
  behind_top (chr d) rest = tree d ++ (codes ")" ++ rest)
  behind_top (guard d) rest = tree d ++ (codes ")" ++ rest)
  behind_top (letting d) rest = tree d ++ (codes ")" ++ rest)
  behind_top (parl d) rest = tree d ++ (codes ")" ++ rest)
  behind_top (parr d) rest = tree d ++ (codes ")" ++ rest)
  behind_top (hiding d) rest = tree d ++ (codes ")" ++ rest)
  behind_top (pass d) rest = tree d ++ (codes ")" ++ rest)
  behind_top (enstep d) rest = tree d ++ (codes ")" ++ rest)
  behind_top (enend d) rest = tree d ++ (codes ")" ++ rest)
  behind_top (disstep d) rest = tree d ++ (codes ")" ++ rest)
  behind_top (disend d) rest = tree d ++ (codes ")" ++ rest)
  behind_top (distake d) rest = tree d ++ (codes ")" ++ rest)
  behind_top (calling d) rest = tree d ++ (codes ")" ++ rest)
  behind_top (rel d) rest = tree d ++ (codes ")" ++ rest)

  part_so : (w t r : List ℕ) → w ++ ((t ++ codes ")") ++ r) ≡ w ++ (t ++ (codes ")" ++ r))
  part_so w t r = ap (λ l. w ++ l) (append_assoc t (codes ")") r)

  val_so : (s t r : List ℕ) →
      (((codes "val" ++ (codes "[" ++ s ++ [] ++ codes "]")) ++ codes "(" ++ t) ++ codes ")") ++ r
      ≡ codes "val[" ++ (s ++ (codes "](" ++ (t ++ (codes ")" ++ r))))
  val_so s t r = simp (append_assoc, append-nil)

  gate_so : (n t r : List ℕ) → (codes "gate[" ++ n ++ codes "](" ++ t ++ codes ")") ++ r ≡ codes "gate[" ++ (n ++ (codes "](" ++ (t ++ (codes ")" ++ r))))
  gate_so n t r = simp append_assoc

  both_so : (t u r : List ℕ) → (codes "both(" ++ t ++ codes "," ++ u ++ codes ")") ++ r ≡ codes "both(" ++ (t ++ (codes "," ++ (u ++ (codes ")" ++ r))))
  both_so t u r = simp append_assoc

  top_so : (d : Derivation) (rest : List ℕ) → tree d ++ rest ≡ rule_word (top d) ++ behind_top d rest
  top_so (pre slots) rest = refl
  top_so int rest = refl
  top_so (exiting slots) rest = refl
  top_so (val slot d) rest = val_so (slot_text names slot) (tree d) rest
  top_so (gate place d) rest = gate_so (decimal place) (tree d) rest
  top_so (both d e) rest = both_so (tree d) (tree e) rest
  top_so (chl d) rest = part_so (rule_word (rules.Over unary.Chl)) (tree d) rest
  top_so (chr d) rest = part_so (rule_word (rules.Over unary.Chr)) (tree d) rest
  top_so (guard d) rest = part_so (rule_word (rules.Over unary.Guard)) (tree d) rest
  top_so (letting d) rest = part_so (rule_word (rules.Over unary.Let)) (tree d) rest
  top_so (parl d) rest = part_so (rule_word (rules.Over unary.Parl)) (tree d) rest
  top_so (parr d) rest = part_so (rule_word (rules.Over unary.Parr)) (tree d) rest
  top_so (hiding d) rest = part_so (rule_word (rules.Over unary.Hide)) (tree d) rest
  top_so (pass d) rest = part_so (rule_word (rules.Over unary.Pass)) (tree d) rest
  top_so (enstep d) rest = part_so (rule_word (rules.Over unary.Enstep)) (tree d) rest
  top_so (enend d) rest = part_so (rule_word (rules.Over unary.Enend)) (tree d) rest
  top_so (disstep d) rest = part_so (rule_word (rules.Over unary.Disstep)) (tree d) rest
  top_so (disend d) rest = part_so (rule_word (rules.Over unary.Disend)) (tree d) rest
  top_so (distake d) rest = part_so (rule_word (rules.Over unary.Distake)) (tree d) rest
  top_so (calling d) rest = part_so (rule_word (rules.Over unary.Call)) (tree d) rest
  top_so (rel d) rest = part_so (rule_word (rules.Over unary.Rel)) (tree d) rest

  -- it finds the tree that is written
  abbrev FindsTree : Option (List ℕ) → Option (List ℕ) → (Derivation → Type 0) → Type 0
  FindsTree old new IsIt = Finds (tree_text names) (TreeFits program) EndsTree old new IsIt

  module _ (old new : Option (List ℕ)) (o : Option RuleWord)
      (finds : Finds rule_word (λ word. Unit {0}) (λ rest. Unit {0}) old new (λ word. o ≡ Some word)) where
    -- the word of the rule at the root was taken
    abbrev IsTop : Derivation → List ℕ → Type 0
    IsTop d rest = (o ≡ Some (top d)) × (new ≡ Some (behind_top d rest))

    at_top : (d : Derivation) (rest : List ℕ) → old ≡ Some (tree d ++ rest) → IsTop d rest
    at_top d rest e = finds (top d) (behind_top d rest) tt tt (e ∙ ap Some (top_so d rest))

    pub no_rule : o ≡ None → (d : Derivation) (rest : List ℕ) → old ≡ Some (tree d ++ rest) → ⊥
    no_rule k d rest e = let wrong : None ≡ Some (top d) = sym k ∙ (at_top d rest e).0 in cc

    pub pre_read : o ≡ Some rules.Pre → (x : List Slot) (last : Option (List ℕ)) →
        Finds (slots_text names) (Each (SlotFits program)) EndsTree new last (λ all. x ≡ all) → FindsTree old last (λ d. pre x ≡ d)
    pre_read k x last f d rest fits ends e = go d (at_top d rest e) fits
      where
        go : (d : Derivation) → IsTop d rest → TreeFits program d → (pre x ≡ d) × (last ≡ Some rest)
        go (pre y) h fit = let q = f y rest fit ends h.1 in (ap pre q.0, q.1)
        go _ h fit = absurd (let wrong = sym h.0 ∙ k in cc)

    pub int_read : o ≡ Some rules.Int → FindsTree old new (λ d. int ≡ d)
    int_read k d rest fits ends e = go d (at_top d rest e)
      where
        go : (d : Derivation) → IsTop d rest → (int ≡ d) × (new ≡ Some rest)
        go int h = (refl, h.1)
        go _ h = absurd (let wrong = sym h.0 ∙ k in cc)

    pub exit_read : o ≡ Some rules.Exit → (x : List Slot) (last : Option (List ℕ)) →
        Finds (slots_text names) (Each (SlotFits program)) EndsTree new last (λ all. x ≡ all) → FindsTree old last (λ d. exiting x ≡ d)
    exit_read k x last f d rest fits ends e = go d (at_top d rest e) fits
      where
        go : (d : Derivation) → IsTop d rest → TreeFits program d → (exiting x ≡ d) × (last ≡ Some rest)
        go (exiting y) h fit = let q = f y rest fit ends h.1 in (ap exiting q.0, q.1)
        go _ h fit = absurd (let wrong = sym h.0 ∙ k in cc)

    module _ {E : Type 0} (last : Option (List ℕ)) where
      pub val_read : o ≡ Some rules.Val → (r : Result Rules E) →
          IfOk r (λ rules. (slot : Slot) (d : Derivation) (rest : List ℕ) → SlotFits program slot → TreeFits program d →
          new ≡ Some (slot_text names slot ++ (codes "](" ++ (tree d ++ (codes ")" ++ rest)))) →
          (derivation_of rules ≡ val slot d) × (last ≡ Some rest)) →
          IfOk r (λ rules. FindsTree old last (λ d. derivation_of rules ≡ d))
      val_read k (Err e) f = tt
      val_read k (Ok x) f = λ d rest fits ends e. go rest d (at_top d rest e) fits
        where
          go : (rest : List ℕ) (d : Derivation) → IsTop d rest → TreeFits program d → (derivation_of x ≡ d) × (last ≡ Some rest)
          go rest (val slot d) h fit = f slot d rest fit.0 fit.1 h.1
          go rest _ h fit = absurd (let wrong = sym h.0 ∙ k in cc)

      pub gate_read : o ≡ Some rules.Gate → (r : Result Rules E) →
          IfOk r (λ rules. (place : ℕ) (d : Derivation) (rest : List ℕ) → place < 2 ^ 32 → TreeFits program d →
          new ≡ Some (decimal place ++ (codes "](" ++ (tree d ++ (codes ")" ++ rest)))) →
          (derivation_of rules ≡ gate place d) × (last ≡ Some rest)) →
          IfOk r (λ rules. FindsTree old last (λ d. derivation_of rules ≡ d))
      gate_read k (Err e) f = tt
      gate_read k (Ok x) f = λ d rest fits ends e. go rest d (at_top d rest e) fits
        where
          go : (rest : List ℕ) (d : Derivation) → IsTop d rest → TreeFits program d → (derivation_of x ≡ d) × (last ≡ Some rest)
          go rest (gate place d) h fit = f place d rest fit.0 fit.1 h.1
          go rest _ h fit = absurd (let wrong = sym h.0 ∙ k in cc)

      pub both_read : o ≡ Some rules.Both → (r : Result Rules E) →
          IfOk r (λ rules. (d e : Derivation) (rest : List ℕ) → TreeFits program d → TreeFits program e →
          new ≡ Some (tree d ++ (codes "," ++ (tree e ++ (codes ")" ++ rest)))) →
          (derivation_of rules ≡ both d e) × (last ≡ Some rest)) →
          IfOk r (λ rules. FindsTree old last (λ d. derivation_of rules ≡ d))
      both_read k (Err e) f = tt
      both_read k (Ok x) f = λ d rest fits ends e. go rest d (at_top d rest e) fits
        where
          go : (rest : List ℕ) (d : Derivation) → IsTop d rest → TreeFits program d → (derivation_of x ≡ d) × (last ≡ Some rest)
          go rest (both d e) h fit = f d e rest fit.0 fit.1 h.1
          go rest _ h fit = absurd (let wrong = sym h.0 ∙ k in cc)

      pub over_read : (rule : Unary) (part : Derivation) (mid : Option (List ℕ)) → o ≡ Some (rules.Over rule) →
          FindsTree new mid (λ d. part ≡ d) → last ≡ past (codes ")") mid → (r : Result Rules E) →
          IfOk r (λ rules. derivation_of rules ≡ over rule part) →
          IfOk r (λ rules. FindsTree old last (λ d. derivation_of rules ≡ d))
      over_read rule part mid k f l (Err e) made = tt
      over_read rule part mid k f l (Ok x) made = λ d rest fits ends e. go rest d (at_top d rest e) fits
        where
          one : (rest : List ℕ) (w : Unary) (d : Derivation) → o ≡ Some (rules.Over w) → new ≡ Some (tree d ++ (codes ")" ++ rest)) →
              TreeFits program d → (derivation_of x ≡ over w d) × (last ≡ Some rest)
          one rest w d h s fit =
              let same : Some (rules.Over w) ≡ Some (rules.Over rule) = sym h ∙ k in
              let rule_is : rule ≡ w = cc in
              let q = f d (codes ")" ++ rest) fit refl s in
              (made ∙ ap (over rule) q.0 ∙ ap (λ z. over z d) rule_is, l ∙ ap (past (codes ")")) q.1)

          go : (rest : List ℕ) (d : Derivation) → IsTop d rest → TreeFits program d → (derivation_of x ≡ d) × (last ≡ Some rest)
          go rest (chl d) h fit = one rest unary.Chl d h.0 h.1 fit
          go rest (chr d) h fit = one rest unary.Chr d h.0 h.1 fit
          go rest (guard d) h fit = one rest unary.Guard d h.0 h.1 fit
          go rest (letting d) h fit = one rest unary.Let d h.0 h.1 fit
          go rest (parl d) h fit = one rest unary.Parl d h.0 h.1 fit
          go rest (parr d) h fit = one rest unary.Parr d h.0 h.1 fit
          go rest (hiding d) h fit = one rest unary.Hide d h.0 h.1 fit
          go rest (pass d) h fit = one rest unary.Pass d h.0 h.1 fit
          go rest (enstep d) h fit = one rest unary.Enstep d h.0 h.1 fit
          go rest (enend d) h fit = one rest unary.Enend d h.0 h.1 fit
          go rest (disstep d) h fit = one rest unary.Disstep d h.0 h.1 fit
          go rest (disend d) h fit = one rest unary.Disend d h.0 h.1 fit
          go rest (distake d) h fit = one rest unary.Distake d h.0 h.1 fit
          go rest (calling d) h fit = one rest unary.Call d h.0 h.1 fit
          go rest (rel d) h fit = one rest unary.Rel d h.0 h.1 fit
          go rest _ h fit = absurd (let wrong = sym h.0 ∙ k in cc)
