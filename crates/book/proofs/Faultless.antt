-- A sound tie has no fault.
use Rattle.scale.specs.Meaning.{Meaning}
use Rattle.ties.specs.declared.fault.TieFault.{TieFault}
use Rattle.ties.specs.declared.fault.TieFault.TheVariants.{Target, Term as OfTerm}
use Rattle.ties.specs.declared.fault.TermFault.TheVariants.{Absent, Order, NoCode, Coarse}
use Rattle.ties.specs.Layouts.{Shape}
use Rattle.ties.specs.Equations.{Equation}
use Rattle.ties.specs.Faults.{Faulty, Sound}

pub no_fault : (m : Meaning) (s : Shape) (e : Equation) (f : TieFault) → Sound m s e → Faulty m s e f → ⊥
no_fault m s e Target sound bad = bad sound.target
no_fault m s e (OfTerm (Absent i)) sound bad = bad.1.1 (sound.exist i bad.1.0)
no_fault m s e (OfTerm (Order i)) sound bad = bad.2.1 (sound.rise i bad.2.0)
no_fault m s e (OfTerm (NoCode i)) sound bad = bad.3.1 (sound.codes i bad.3.0)
no_fault m s e (OfTerm (Coarse i)) sound bad = bad.4.1 (sound.fine i bad.4.0)
