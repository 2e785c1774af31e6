-- From a walk and its end to what the call promises. Assumes nothing.
use Rattle.std.proofs.Common.{◌≡◌, ℕ, ◌*◌, ◌≤◌, true, false, not, List, length, Ok, Err, Result, sym, refl, ap, ◌∙◌, subst, arith}
use mathlib.Core.Path.{fun_ext}
use mathlib.Core.Bool.{beq}
use Rattle.diagram.specs.declared.Node.{Node}
use Rattle.diagram.specs.Functions.{Fun, choice}
use Rattle.diagram.specs.Nodes.{Issued, meaning}
use Rattle.diagram.specs.Outcomes.{Grants, Denies}
use Rattle.diagram.proofs.Tables.{meaning_constant}
use Rattle.diagram.proofs.Growth.{cut_back}
use Rattle.diagram.proofs.Outcome.{grants_nodes, denies_nodes}
use Rattle.diagram.proofs.Counted.{granted, denies_many}
use Rattle.diagram.proofs.Account.{gives_grants}
use Rattle.table.specs.declared.faults.TableFault.{TableFault}
use Rattle.table.specs.declared.faults.Reason.TheVariants.{Full}
use Rattle.table.specs.Faults.{fault}
use Rattle.table.specs.Model.{Sound}
use Rattle.formula.specs.declared.steps.Operator.TheVariants.{Xor}
use Rattle.formula.specs.Grammar.{Tree}
use Rattle.formula.specs.Meaning.{truth}
use Rattle.implicant.specs.Implicants.{Condition}
use Rattle.implicant.specs.Variables.{condition, condition_of, ArePrimes, PrimeRestrictions}
use Rattle.implicant.proofs.Halves.{primes_have_one_set}
use Rattle.implicant.proofs.Walked.{grants_prime_nodes, denies_prime_nodes}
use Rattle.compile.specs.Trees.{of_tree}
use Rattle.compile.specs.Outcomes.{Compiled}
use Rattle.compile.proofs.Parts.{grants_parts, denies_parts}
use Rattle.compile.proofs.Stacks.{option_function as leaf-function}
use Rattle.card_walk.specs.Sums.{never, some_of}
use Rattle.card_walk.specs.Outcomes.{Summed}
use Rattle.card_walk.proofs.Adding.{sum_is, grants_sum, denies_sum}
use Rattle.walk.specs.declared.ops.Op.TheVariants.{Infix}
use Rattle.walk.specs.Ops.{joined}
use Rattle.walk.specs.Outcomes.{Walked, PrimesWalked}
use Rattle.engine.specs.declared.faults.GraphFault.{GraphFault}
use Rattle.engine.specs.declared.faults.GraphFault.TheVariants.{Table}
use Rattle.engine.specs.Works.{Work, Working, result, parts, primes_of, sums, of_option, complement}
use Rattle.engine.specs.Calls.{Made, Primed}
use Rattle.engine.specs.Ends.{Ended}

-- a table's fault is carried whole
abbrev pub Carried : TableFault → GraphFault → Type 0
Carried x y = y ≡ Table x

-- every call ends so: granted with all its working nodes, or refused and taken back
ended_ok : (N : ℕ) (w : Work) (f : Fun) (old mid new : List Node) (count h : ℕ) (r : Result ℕ GraphFault) → length mid ≤ N → Issued mid h → meaning mid h ≡ f → Grants (Working w) old mid → Ended Carried count (Ok h) mid r new → Made N w f old r new
ended_ok N w f old mid new count h r room i m g e =
    subst (λ x. Made N w f old x new) (sym e.outcome.0) (subst (λ x. Made N w f old (Ok h) x) (sym e.outcome.1) (record { outcome = record { issued = i; means = m; granted = granted room g } }))

ended_err : (N : ℕ) (w : Work) (f : Fun) (old mid new : List Node) (count : ℕ) (t : TableFault) (r : Result ℕ GraphFault) → t ≡ fault Full N → count ≡ length old → Denies N (Working w) old mid → Ended Carried count (Err t) mid r new → Made N w f old r new
ended_err N w f old mid new count t r is c d e =
    let o = e.outcome in
    subst (λ x. Made N w f old x new) (sym o.2) (record { outcome = record { many = denies_many d; is = o.1 ∙ ap Table is; kept = o.3 ∙ cut_back old mid count d.grows.extends c } })

made : (N : ℕ) (old mid new : List Node) (l count : ℕ) (f : Fun) (walked : Result ℕ TableFault) (r : Result ℕ GraphFault) → Sound N mid → count ≡ length old → Walked N old l f walked mid → Ended Carried count walked mid r new → Made N (result f) f old r new
made N old mid new l count f (Ok h) r s c w e = let g = w.outcome in ended_ok N (result f) f old mid new count h r s.room g.stands.issued g.stands.value (grants_nodes (gives_grants g)) e
made N old mid new l count f (Err t) r s c w e = let d = w.outcome in ended_err N (result f) f old mid new count t r d.is c (denies_nodes d.denies) e

pub option_function : (ns : List Node) (k : ℕ) → choice (2 * k) (meaning ns 0) (meaning ns 1) ≡ of_option k
unfolding of_tree truth
option_function ns k = leaf-function ns k

pub complement_function : (ns : List Node) (f : Fun) → joined (Infix Xor) f (meaning ns 1) ≡ complement f
complement_function ns f =
    ap (λ g. joined (Infix Xor) f g) (meaning_constant ns 1 (omega arith))
    ∙ fun_ext (λ s. elim (f s) as (λ b. not (beq b true) ≡ not b) [ true ↦ refl | false ↦ refl ])

-- the same for a formula and its parts
made_parts : (N : ℕ) (old mid new : List Node) (count : ℕ) (t : Tree) (walked : Result ℕ TableFault) (r : Result ℕ GraphFault) → Sound N mid → count ≡ length old → Compiled N old t walked mid → Ended Carried count walked mid r new → Made N (parts t) (of_tree t) old r new
made_parts N old mid new count t (Ok h) r s c w e = let b = w.outcome in ended_ok N (parts t) (of_tree t) old mid new count h r s.room b.issued b.means (grants_parts b.grants) e
made_parts N old mid new count t (Err x) r s c w e = let d = w.outcome in ended_err N (parts t) (of_tree t) old mid new count x r d.is c (denies_parts d.denies) e

condition_sealed : (f : Fun) → condition 12 0 f ≡ condition_of f
unfolding condition_of
condition_sealed f = fun_ext (λ v. refl)

-- the same for the primes of a condition, with the set that is made
made_primes : (N : ℕ) (old mid new : List Node) (count : ℕ) (f : Fun) (walked : Result ℕ TableFault) (r : Result ℕ GraphFault) → Sound N mid → count ≡ length old → PrimesWalked N 12 0 f old walked mid → Ended Carried count walked mid r new
    → (set : Fun) × ArePrimes 12 0 (condition_of f) set × Made N (primes_of f) set old r new
made_primes N old mid new count f (Ok h) r s c w e =
    let b = w.outcome in
    let set = meaning mid h in
    let grants = subst (λ (x : Condition 12). Grants (PrimeRestrictions 12 0 x) old mid) (condition_sealed f) b.grants in
    (set, subst (λ (x : Condition 12). ArePrimes 12 0 x set) (condition_sealed f) b.set.primes, ended_ok N (primes_of f) set old mid new count h r s.room b.set.issued refl (grants_prime_nodes 12 0 (condition_of f) old mid grants) e)
made_primes N old mid new count f (Err x) r s c w e =
    let d = w.outcome in
    let g = primes_have_one_set 12 0 (condition_of f) in
    let denies = subst (λ (y : Condition 12). Denies N (PrimeRestrictions 12 0 y) old mid) (condition_sealed f) d.denies in
    (g.0, g.1, ended_err N (primes_of f) g.0 old mid new count x r d.is c (denies_prime_nodes N 12 0 (condition_of f) old mid denies) e)

-- the same for the sum of some formulas
made_sums : (N : ℕ) (old mid new : List Node) (count : ℕ) (ts : List Tree) (walked : Result ℕ TableFault) (r : Result ℕ GraphFault) → Sound N mid → count ≡ length old → Summed N never old ts walked mid → Ended Carried count walked mid r new → Made N (sums ts) (some_of ts) old r new
made_sums N old mid new count ts (Ok h) r s c w e = let b = w.outcome in ended_ok N (sums ts) (some_of ts) old mid new count h r s.room b.issued (b.means ∙ sum_is ts) (grants_sum never ts b.grants) e
made_sums N old mid new count ts (Err x) r s c w e = let d = w.outcome in ended_err N (sums ts) (some_of ts) old mid new count x r d.is c (denies_sum never ts d.denies) e

-- The graph is seen as its table: what is known of the table inside is known of the graph.
module _ {S : Type 0} (limit : S → ℕ) (nodes : S → List Node) {inside graph : S} (view : inside ≡ graph) {mid : S} (kept : limit mid ≡ limit inside) (sound : Sound (limit mid) (nodes mid)) {count : ℕ} (held : count ≡ length (nodes graph)) where
  abbrev from_inside : (S → Type 0) → Type 0
  from_inside P = (count ≡ length (nodes inside) → P inside) → P graph

  seen : (P : S → Type 0) → from_inside P
  seen P p = subst (λ s. count ≡ length (nodes s) → P s) view p held

  room : Sound (limit inside) (nodes mid)
  room = subst (λ n. Sound n (nodes mid)) kept sound

  pub made_call : (G : S → Fun) {l : ℕ} {f : Fun} {walked : Result ℕ TableFault} {r : Result ℕ GraphFault} {new : List Node} → f ≡ G inside → Walked (limit inside) (nodes inside) l f walked (nodes mid) → Ended Carried count walked (nodes mid) r new
      → Made (limit graph) (result (G graph)) (G graph) (nodes graph) r new
  made_call G {l} {f} {walked} {r} {new} q w e =
      seen (λ s. Made (limit s) (result (G s)) (G s) (nodes s) r new) (λ c. subst (λ x. Made (limit inside) (result x) x (nodes inside) r new) q (made (limit inside) (nodes inside) (nodes mid) new l count f walked r room c w e))

  pub made_formula : {t : Tree} {walked : Result ℕ TableFault} {r : Result ℕ GraphFault} {new : List Node} → Compiled (limit inside) (nodes inside) t walked (nodes mid) → Ended Carried count walked (nodes mid) r new
      → Made (limit graph) (parts t) (of_tree t) (nodes graph) r new
  made_formula {t} {walked} {r} {new} w e = seen (λ s. Made (limit s) (parts t) (of_tree t) (nodes s) r new) (λ c. made_parts (limit inside) (nodes inside) (nodes mid) new count t walked r room c w e)

  pub made_set : (f : ℕ) {walked : Result ℕ TableFault} {r : Result ℕ GraphFault} {new : List Node} → PrimesWalked (limit inside) 12 0 (meaning (nodes inside) f) (nodes inside) walked (nodes mid) → Ended Carried count walked (nodes mid) r new
      → Primed (limit graph) f (nodes graph) r new
  made_set f {walked} {r} {new} w e =
      seen (λ s. Primed (limit s) f (nodes s) r new) (λ c.
      let p = made_primes (limit inside) (nodes inside) (nodes mid) new count (meaning (nodes inside) f) walked r room c w e in
      record { set = p.0; are = p.1; made = p.2 })

  pub made_sum : {ts : List Tree} {walked : Result ℕ TableFault} {r : Result ℕ GraphFault} {new : List Node} → Summed (limit inside) never (nodes inside) ts walked (nodes mid) → Ended Carried count walked (nodes mid) r new
      → Made (limit graph) (sums ts) (some_of ts) (nodes graph) r new
  made_sum {ts} {walked} {r} {new} w e = seen (λ s. Made (limit s) (sums ts) (some_of ts) (nodes s) r new) (λ c. made_sums (limit inside) (nodes inside) (nodes mid) new count ts walked r room c w e)
