-- Statements that change nothing: they keep the paths that are held, or their values are absorbed.
use Rattle.std.proofs.Common.{◌≡◌, ℕ, ◌==◌, ◌||◌, ◌++◌, Bool, true, false, List, [], ◌∷◌, refl, sym, ◌∙◌, ap, subst}
use Rattle.std.proofs.lemmas.Bool.{eqb-true}
use Rattle.std.specs.List.{list_any}
use Rattle.algebra.specs.Basics.{seq_of}
use Rattle.algebra.specs.HeldPaths.{Held}
use Rattle.core_program.specs.Core.{Program, Stmt, EmptyS, BlockS, LocalS, SetVarS, SetFieldS, DoS, IfS, WhileS, SyncS, ReturnS, PrintS, StartS}
use Rattle.rules.specs.Effect.{after_stmt}
use Rattle.effects.specs.Rules.{Value}
use Rattle.book_check.specs.Blocks.{IsAbsorbed, AreAbsorbed, keeps_paths}

-- two values that are equal at every set
abbrev pub Same : Value → Value → Type 0
Same x w = (H : Held) → x H ≡ w H

-- a statement that keeps the paths that are held
pub kept_set : (P : Program) (s : Stmt) (H : Held) → keeps_paths s ≡ true → after_stmt P s H ≡ H
kept_set P EmptyS H e = refl
kept_set P (BlockS ss) H e = refl
kept_set P (LocalS x true ty v) H e = absurd (cc)
kept_set P (LocalS x false ty v) H e = refl
kept_set P (SetVarS x v) H e = refl
kept_set P (SetFieldS a f b) H e = refl
kept_set P (DoS v drops) H e = refl
kept_set P (IfS c s t) H e = refl
kept_set P (WhileS c s) H e = refl
kept_set P (SyncS p s) H e = refl
kept_set P (ReturnS v) H e = refl
kept_set P (PrintS v) H e = refl
kept_set P (StartS v) H e = refl

-- values that change nothing before another

absorbed_one : (b c : Bool) (V : ℕ → Value) (v : Value) (k n : ℕ) → (k == n) ≡ b → (b || c) ≡ true → IsAbsorbed V v k → (c ≡ true → IsAbsorbed V v n) → IsAbsorbed V v n
absorbed_one true c V v k n e test here later = subst (IsAbsorbed V v) (eqb-true k n e) here
absorbed_one false c V v k n e test here later = later test

pub absorbed_at : (V : ℕ → Value) (v : Value) (ns : List ℕ) (n : ℕ) → AreAbsorbed V v ns → list_any (λ m. m == n) ns ≡ true → IsAbsorbed V v n
absorbed_at V v [] n are test = absurd (let wrong : false ≡ true = test in cc)
absorbed_at V v (k ∷ ns) n are test = absorbed_one (k == n) (list_any (λ m. m == n) ns) V v k n refl test are.0 (λ e. absorbed_at V v ns n are.1 e)

absorbed_append : (V : ℕ → Value) (v : Value) (ns : List ℕ) (n : ℕ) → AreAbsorbed V v ns → IsAbsorbed V v n → AreAbsorbed V v (ns ++ (n ∷ []))
absorbed_append V v [] n are is = (is, tt)
absorbed_append V v (k ∷ ns) n are is = (are.0, absorbed_append V v ns n are.1 is)

pub absorbed_pushed : (V : ℕ → Value) (v : Value) (old new : List ℕ) (n : ℕ) → new ≡ old ++ (n ∷ []) → AreAbsorbed V v old → IsAbsorbed V v n → AreAbsorbed V v new
absorbed_pushed V v old new n pushed are is = subst (AreAbsorbed V v) (sym pushed) (absorbed_append V v old n are is)

absorbed_same : (V : ℕ → Value) (v w : Value) (ns : List ℕ) → Same v w → AreAbsorbed V v ns → AreAbsorbed V w ns
absorbed_same V v w [] same are = tt
absorbed_same V v w (n ∷ ns) same are = ((λ H. subst (λ z. seq_of (V n H) z ≡ z) (same H) (are.0 H)), absorbed_same V v w ns same are.1)

-- a statement whose value is absorbed
pub statement_absorbed : (P : Program) (V : ℕ → Value) (v : Value) (ns : List ℕ) (n : ℕ) (s : Stmt) → keeps_paths s ≡ true → list_any (λ m. m == n) ns ≡ true → AreAbsorbed V v ns →
    (H : Held) → v H ≡ seq_of (V n H) (v (after_stmt P s H))
statement_absorbed P V v ns n s kept test are H =
    sym (absorbed_at V v ns n are test H) ∙ ap (λ K. seq_of (V n H) (v K)) (sym (kept_set P s H kept))

-- what is absorbed before a statement that changes nothing
pub absorbed_before : (P : Program) (V : ℕ → Value) (v later whole : Value) (ns : List ℕ) (n : ℕ) (s : Stmt) → keeps_paths s ≡ true → Same later whole →
    ((H : Held) → later H ≡ v (after_stmt P s H)) → ((H : Held) → whole H ≡ seq_of (V n H) (later H)) → AreAbsorbed V v ns →
    AreAbsorbed V whole ns × IsAbsorbed V whole n
absorbed_before P V v later whole ns n s kept same moved sequence are = (
  absorbed_same V v whole ns (λ H. ap v (sym (kept_set P s H kept)) ∙ sym (moved H) ∙ same H) are,
  (λ H. ap (λ z. seq_of (V n H) z) (sym (same H)) ∙ sym (sequence H)),
)
