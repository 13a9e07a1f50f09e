-- What was read stays so, while the version stands.
use Rattle.std.proofs.Common.{◌≡◌, ◌++◌, Option, Some, ap, ◌∙◌, subst}
use Rattle.dl_formats.specs.Reading.{segment_at}
use Rattle.dl_tree.specs.declared.node.Node.{Node}
use Rattle.dl_law_meta.specs.Histories.{Supposes, AreRequests}
use Rattle.dl_law_meta.specs.Laws.{IsLater, IsThereLater, IsGoneOrLater, EachReadingStays}
use Rattle.dl_law_meta.proofs.Steps.{any_are}
use Rattle.dl_law_meta.proofs.Stays.{lasting_stay, made_once}
use Rattle.dl_law_meta.proofs.Happens.{progress_read}
use Rattle.dl_law_meta.proofs.OnLedgers.{on_ledgers}

-- a node that is there later at the same version has the same bytes
there_bytes : (n m : Node) (o : Option Node) → IsThereLater n o → o ≡ Some m → m.version ≡ n.version → m.bytes ≡ n.bytes
there_bytes n m o h e v = later (subst (IsThereLater n) e h)
  where
    later : IsLater n m → m.bytes ≡ n.bytes
    later x = x.bytes v

-- the same of a node that may be gone
gone_bytes : (n m : Node) (o : Option Node) → IsGoneOrLater n o → o ≡ Some m → m.version ≡ n.version → m.bytes ≡ n.bytes
gone_bytes n m o h e v = later (subst (IsGoneOrLater n) e h)
  where
    later : IsLater n m → m.bytes ≡ n.bytes
    later x = x.bytes v

-- each reading says what stands there as long as the version is the same
pub readings_stay : EachReadingStays
readings_stay newer older h = record {
  lasting = λ k n key lasts e m f v. there_bytes n m _ (lasting_stay newer older k n any key lasts e) f v;
  ledger = λ l n ten e m f v. gone_bytes n m _ ((made_once newer older l any ten).later n e) f v;
  segment =
      λ s k l n name number ten e is m f v. ap segment_at ((on_ledgers newer older s k l n h name number ten e is).progress m f) ∙ progress_read k l number ten;
}
  where
    any : AreRequests (newer ++ older)
    any = any_are Supposes (newer ++ older) h
