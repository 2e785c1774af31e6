-- A sum that is made from USE record to USE record. Assumes nothing.
use Rattle.std.proofs.Common.{◌≡◌, ℕ, ◌≤◌, List, [], ◌∷◌, ◌++◌, length, drop, Ok, Err, Some, sym, refl, ap, ◌∙◌, subst, append_assoc, append-nil, arith, length-append, length-drop}
use Rattle.diagram.specs.declared.Node.{Node}
use Rattle.diagram.specs.Functions.{Fun}
use Rattle.diagram.specs.Nodes.{meaning, WellFormed}
use Rattle.diagram.specs.Outcomes.{Denies}
use Rattle.diagram.proofs.Tables.{meaning_constant}
use Rattle.table.specs.declared.faults.TableFault.{TableFault}
use Rattle.table.specs.declared.faults.Reason.TheVariants.{Full}
use Rattle.table.specs.Faults.{fault}
use Rattle.diagram.proofs.Outcome.{denies_limit}
use Rattle.formula.specs.Grammar.{Tree, Derives}
use Rattle.card_text.specs.declared.records.Part.{Part}
use Rattle.card_text.specs.declared.records.Use.{Use}
use Rattle.card_text.specs.declared.records.Uses.{Uses}
use Rattle.card_text.specs.Grammar.{use_row, spell}
use Rattle.card_text.specs.Card.{Tail}
use Rattle.card_text.specs.Reads.{UseAt, NoUse, NextUse}
use Rattle.card_text.proofs.Tails.{tail_use, tail_none}
use Rattle.card_walk.specs.Sums.{never, SumRestriction, TreesOf, IsFormula}
use Rattle.card_walk.specs.Outcomes.{SumMade, Summed}
use Rattle.card_walk.proofs.Adding.{summed_none, summed_more, refused_more, refused_rest}

-- the trees `done` are added, and the USE records of the others are still to come
pub record Reached (uses : Uses) (old now : List Node) (sum : ℕ) (ts : List Tree) : Type 0 where
  pub done : List Tree
  pub rest : List Tree
  pub formulas : List (List ℕ)
  pub split : done ++ rest ≡ ts
  pub short : length uses.text.now ≤ 4096
  pub tail : Tail formulas (drop uses.at uses.text.now)
  pub trees : TreesOf formulas rest
  pub made : SumMade never old done sum now

pub reached_none : {uses : Uses} {ns : List Node} (fs : List (List ℕ)) (ts : List Tree) → WellFormed ns → length uses.text.now ≤ 4096 → Tail fs (drop uses.at uses.text.now) → TreesOf fs ts → Reached uses ns ns 0 ts
reached_none {ns = ns} fs ts w short t d = record {
  done = [];
  rest = ts;
  formulas = fs;
  split = refl;
  short = short;
  tail = t;
  trees = d;
  made = subst (λ (f : Fun). SumMade f ns [] 0 ns) (meaning_constant ns 0 (omega arith)) (summed_none ns 0 w (omega arith));
}

-- the first of some trees, by the formula that is read
first_tree : (f : List ℕ) (fs : List (List ℕ)) (ts : List Tree) → TreesOf (f ∷ fs) ts → (t : Tree) × (us : List Tree) × (ts ≡ t ∷ us) × Derives 32 1 f t × TreesOf fs us
first_tree f fs [] d = absurd d
first_tree f fs (t ∷ us) d = (t, us, refl, d.0, d.1)

no_tree : (ts : List Tree) → TreesOf [] ts → ts ≡ []
no_tree [] d = refl
no_tree (t ∷ ts) d = absurd d

-- a USE record's formula is no longer than the text
use_short : (text : List ℕ) (at : ℕ) (u : Use) → UseAt text at u → length u.formula.bytes.now ≤ length text
use_short text at u a =
    let f = u.formula.bytes.now in
    let more = drop u.to text in
    omega (arith, ap length a.begins.line, length-append (spell (use_row f)) (10 ∷ more), length-drop at text)

module _ {uses : Uses} {old now : List Node} {sum : ℕ} {ts : List Tree} (r : Reached uses old now sum ts) where
  -- one USE record more
  module _ {formula : Part} (after : Uses) (a : NextUse uses (Some formula) after) where
    step : (others : List (List ℕ)) × (r.formulas ≡ formula.bytes.now ∷ others) × Tail others (drop after.at uses.text.now)
    step = tail_use uses.text.now uses.at r.formulas (record { formula = formula; to = after.at }) r.tail a.0

    tree : (t : Tree) × (us : List Tree) × (r.rest ≡ t ∷ us) × Derives 32 1 formula.bytes.now t × TreesOf step.0 us
    tree = first_tree formula.bytes.now step.0 r.rest (subst (λ l. TreesOf l r.rest) step.1 r.trees)

    together : (r.done ++ (tree.0 ∷ [])) ++ tree.1 ≡ ts
    together = append_assoc r.done (tree.0 ∷ []) tree.1 ∙ ap (λ l. r.done ++ l) (sym tree.2) ∙ r.split

    pub use_tree : Tree
    use_tree = tree.0

    pub use_derived : Derives 32 1 formula.bytes.now use_tree
    unfolding use_tree
    use_derived = tree.3

    pub use_formula : IsFormula formula.bytes.now
    use_formula = record { short = omega (arith, use_short uses.text.now uses.at (record { formula = formula; to = after.at }) a.0, r.short); tree = tree.0; derived = tree.3 }

    pub reached_more : {h : ℕ} {new : List Node} → SumMade (meaning now sum) now (use_tree ∷ []) h new → Reached after old new h ts
    unfolding use_tree
    reached_more x = record {
      done = r.done ++ (tree.0 ∷ []);
      rest = tree.1;
      formulas = step.0;
      split = together;
      short = omega (arith, ap length a.1, r.short);
      tail = subst (λ text. Tail step.0 (drop after.at text)) (sym a.1) step.2;
      trees = tree.4;
      made = summed_more never old r.done (tree.0 ∷ []) r.made x;
    }

    pub reached_refused : {N M : ℕ} {e : TableFault} {new : List Node} → M ≡ N → Summed M (meaning now sum) now (use_tree ∷ []) (Err e) new → Summed N never old ts (Err e) new
    unfolding use_tree
    reached_refused {N} {M} {e} {new} m x =
        let first = refused_more never old r.done (tree.0 ∷ []) r.made (denies_limit m x.outcome.denies) in
        let all = refused_rest never (r.done ++ (tree.0 ∷ [])) tree.1 first in
        record { outcome = record { is = x.outcome.is ∙ ap (fault Full) m; denies = subst (λ l. Denies N (SumRestriction never l) old new) together all } }

  -- no USE record more: the sum is whole
  pub reached_all : {N : ℕ} → NoUse uses.text.now uses.at → Summed N never old ts (Ok sum) now
  reached_all none =
      let empty = tail_none uses.text.now uses.at r.formulas r.tail none in
      let gone = no_tree r.rest (subst (λ l. TreesOf l r.rest) empty r.trees) in
      let whole = sym (append-nil r.done) ∙ ap (λ l. r.done ++ l) (sym gone) ∙ r.split in
      record { outcome = subst (λ l. SumMade never old l sum now) whole r.made }
