-- A call that makes the file of a vertex known.
use Rattle.std.proofs.Common.{◌≡◌, [], ℕ, Option, Result, Ok, Err, arith}
use Rattle.std.specs.Prelude.{IsErrAnd}
use Rattle.gm_store_parts.specs.Asked.{Name, Reply}
use Rattle.gm_store_parts.specs.States.{StoreState}
use Rattle.gm_store_parts.specs.declared.files.AskFault.{AskFault}
use Rattle.gm_store_parts.specs.declared.files.AskFault.TheVariants as ask
use Rattle.gm_graph_cache.specs.declared.cache.Cache.{Cache}
use Rattle.gm_graph_cache.specs.Asking.{AsksOne, IsAskableFile}
use Rattle.gm_graph_cache.specs.Cached.{HoldsSame, Knows, LentSame, file_count, main_in, module_numbered}
use Rattle.gm_graph_cache.specs.Private.Cached.{IsPlaceFor, MakesKnown}
use Rattle.gm_graph_cache.proofs.AskedFile.{asks_nothing}
use Rattle.gm_graph_cache.proofs.Keeping.{follows_same}

module _ {old new : Cache} {number : ℕ} (holds : HoldsSame old new) (lent : LentSame old new) (same : file_count new ≡ file_count old) where
  -- The file is known without asking, or may not be asked for.
  pub known_before : {may : Name → Option Reply → Type 0} {state : StoreState} (place : Option ℕ) → Knows old state.asked
      → IsPlaceFor new (module_numbered old number) place → MakesKnown old new number may may state state (Ok place)
  known_before place knows at = record {
    count = omega (arith, same);
    known = (follows_same holds knows, at);
    lent = lent;
    err = tt;
    asks = asks_nothing;
    failed = λ e. absurd (cc e);
  }

  -- Memory runs out.
  pub no_memory : {before after : Name → Option Reply → Type 0} {earlier later : StoreState} (result : Result (Option ℕ) AskFault)
      → IsErrAnd result (λ fault. fault ≡ ask.NoMemory)
      → AsksOne (IsAskableFile (main_in old) (module_numbered old number)) before after earlier later []
      → MakesKnown old new number before after earlier later result
  no_memory (Ok place) given asks = absurd given
  no_memory (Err fault) given asks = record {
    count = omega (arith, same);
    known = tt;
    lent = lent;
    err = holds;
    asks = rw given asks;
    failed = λ e. absurd (cc (given, e));
  }
